pub mod ReachLaws
pub mod LinkLaws
