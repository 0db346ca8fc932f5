pub mod Heads
pub mod Coding
pub mod Coded
pub mod Shown
pub mod Names
