pub mod Answered
pub mod Leaving
pub mod Wholes
