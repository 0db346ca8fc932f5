pub mod Views
pub mod Tables
pub mod Counts
pub mod Held
pub mod Shown
