pub mod OptionLaws
pub mod OperatorLaws
pub mod Meanings
