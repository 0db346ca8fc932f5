pub mod Arguments
pub mod Opened
pub mod Opening
pub mod Shaped
pub mod Spelt
