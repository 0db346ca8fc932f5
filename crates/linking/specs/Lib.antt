pub mod Modules
pub mod Reaching
pub mod Linked
