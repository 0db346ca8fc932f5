pub mod Grown
pub mod Derived
