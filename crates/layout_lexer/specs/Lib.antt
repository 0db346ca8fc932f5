pub mod Words
pub mod Places
pub mod Pieces
pub mod Scanning
pub mod Layouts
pub mod Texts
pub mod Slices
