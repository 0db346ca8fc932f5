pub mod Depths
pub mod Moved
pub mod Stable
pub mod Named
pub mod Alike
