pub mod NameLaws
pub mod NumberLaws
pub mod WalkLaws
pub mod FormLaws
pub mod CommandLaws
pub mod MatchLaws
