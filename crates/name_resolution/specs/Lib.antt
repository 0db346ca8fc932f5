pub mod Named
pub mod Spelt
