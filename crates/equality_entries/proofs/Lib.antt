pub mod ContextLabels
pub mod InstanceLabels
pub mod EqualityLabels
pub mod UniverseLabels
