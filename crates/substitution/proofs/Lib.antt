pub mod Maps
pub mod ThenLaws
pub mod BinderLaws
pub mod ActionLaws
pub mod RaiseLaws
pub mod ShiftBounds
pub mod Closures
