pub mod Formulas
pub mod Truths
pub mod Follows
pub mod Examples
