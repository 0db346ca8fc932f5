pub mod ContextLaws
pub mod GrowthLaws
pub mod LevelLaws
pub mod PlaceLaws
pub mod VariableLaws
pub mod NameLaws
