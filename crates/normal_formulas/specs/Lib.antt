pub mod Atoms
pub mod Reads
