pub mod Hashes
pub mod Tables
pub mod Slots
pub mod Layouts
pub mod Stored
pub mod Held
pub mod Interned
