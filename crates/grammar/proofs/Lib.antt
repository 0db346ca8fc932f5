pub mod NoEnds
pub mod Ends
pub mod Sizes
