pub mod Depth
