pub mod ClaimLaws
pub mod EquationLaws
pub mod TypingLaws
