pub mod Lines
pub mod Equivalences
pub mod Parts
