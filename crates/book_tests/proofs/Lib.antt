pub mod RunLaws
pub mod GrowthLaws
