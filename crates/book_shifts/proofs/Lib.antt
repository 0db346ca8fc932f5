pub mod SizeLaws
pub mod SourceLaws
