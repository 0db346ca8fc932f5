pub mod Equations
pub mod Terms
