pub mod Known
pub mod Literal
pub mod Typings
pub mod Direct
pub mod Examples
