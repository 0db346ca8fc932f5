pub mod MeaningLaws
pub mod TypingLaws
pub mod OneCode
pub mod NumberLaws
pub mod ProgramLaws
