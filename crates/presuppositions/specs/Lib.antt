pub mod Behind
pub mod Sources
pub mod Sought
pub mod Entries
pub mod AtTrees
