pub mod Statements
pub mod Made
pub mod Derivations
pub mod Normally
pub mod Checks
