pub mod LookupLaws
pub mod Names
