pub mod HeadLaws
pub mod CodingLaws
pub mod CodedLaws
pub mod NameLaws
