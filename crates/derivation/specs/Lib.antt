pub mod Meanings
pub mod Right
pub mod Derivations
