pub mod Grammar
pub mod Words
pub mod Matches
pub mod Read
