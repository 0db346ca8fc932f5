pub mod Ties
pub mod FilledThings
pub mod Uses
pub mod Soundness
