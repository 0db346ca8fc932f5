pub mod Writes
pub mod Dialogues
pub mod Steps
