pub mod Contexts
pub mod Faces
pub mod Sides
pub mod Lines
pub mod Evidence
pub mod Texts
pub mod Told
