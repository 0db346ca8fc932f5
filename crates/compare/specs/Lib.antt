pub mod Pairs
pub mod Kids
pub mod Kinds
pub mod Entries
