pub mod Finding
pub mod Linked
pub mod Steps
