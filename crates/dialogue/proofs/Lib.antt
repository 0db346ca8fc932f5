pub mod WriteLemmas
pub mod LineLaws
pub mod StepLaws
pub mod TalkLaws
