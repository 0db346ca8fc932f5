pub mod Literals
pub mod Forms
