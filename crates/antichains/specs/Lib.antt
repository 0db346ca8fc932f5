pub mod Antichains
pub mod Reductions
