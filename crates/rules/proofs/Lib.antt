mod StackLaws
mod RunLaws
mod ThenLaws
mod PlaceLaws
pub mod DerivedLaws
pub mod Readings
pub mod TableLaws
