pub mod Spelling
pub mod Lines
pub mod Words
pub mod Reading
pub mod Reader
pub mod Writing
