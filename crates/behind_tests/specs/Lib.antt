pub mod Claims
pub mod Compositions
pub mod Glued
pub mod Telescopes
