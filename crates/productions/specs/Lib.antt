pub mod Words
pub mod Grammar
pub mod Machine
pub mod Runs
