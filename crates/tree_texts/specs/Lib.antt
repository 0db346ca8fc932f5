pub mod Show
pub mod Layouts
pub mod Tasks
