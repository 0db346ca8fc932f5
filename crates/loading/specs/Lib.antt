pub mod Texts
pub mod Loading
pub mod Frames
pub mod Same
