pub mod Memory
pub mod Asked
pub mod Parts
pub mod Tasks
pub mod Walks
pub mod Terms
pub mod Anchors
