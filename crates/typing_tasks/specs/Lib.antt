pub mod States
pub mod Outcomes
pub mod Tasks
pub mod Weights
