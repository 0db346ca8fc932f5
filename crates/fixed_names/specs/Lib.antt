pub mod Fixed
pub mod Scopes
pub mod Shown
