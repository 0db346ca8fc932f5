pub mod Nodes
pub mod Coded
pub mod Right
pub mod Contents
pub mod Shown
pub mod Fits
pub mod Tests
