pub mod Patterns
pub mod Values
pub mod Normals
pub mod Fillings
pub mod Tests
pub mod Built
pub mod Examples
pub mod Refusals
