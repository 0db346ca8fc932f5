pub mod Held
pub mod Filed
pub mod Named
pub mod Premises
pub mod Meant
pub mod Shown
pub mod Verdicts
pub mod Sides
