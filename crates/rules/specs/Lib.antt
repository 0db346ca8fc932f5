pub mod Table
pub mod DerivedTrees
pub mod Rules
pub mod Run
pub mod Shifts
pub mod Schemas
pub mod Claims
pub mod Instances
