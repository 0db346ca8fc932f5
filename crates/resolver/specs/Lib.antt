pub mod Forms
pub mod Resolved
