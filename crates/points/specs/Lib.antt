pub mod Values
pub mod Points
