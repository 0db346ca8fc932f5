pub mod Contexts
pub mod Places
