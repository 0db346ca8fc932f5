pub mod Literal
pub mod Formed
pub mod Ways
pub mod Openings
pub mod Substitutions
pub mod Waits
pub mod Faces
