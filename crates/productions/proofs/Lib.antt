pub mod Meaning
pub mod Steps
pub mod Spines
pub mod Both
pub mod Viable
pub mod Exact
