pub mod Equations
pub mod Faces
pub mod Meets
