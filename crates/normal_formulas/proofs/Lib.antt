pub mod OrderLaws
pub mod ReadLaws
pub mod KidLaws
pub mod PartLaws
