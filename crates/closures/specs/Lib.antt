pub mod Environments
pub mod Shown
pub mod Closures
pub mod Weights
pub mod Waits
pub mod Substs
pub mod Notes
pub mod Chains
