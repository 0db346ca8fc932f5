pub mod TooLong
pub mod FrameLaws
pub mod ReadLaws
pub mod LoadLaws
