pub mod Circuits
pub mod Branches
pub mod Evaluations
