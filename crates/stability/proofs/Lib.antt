pub mod Tested
pub mod Families
pub mod NamedLaws
pub mod FormLaws
