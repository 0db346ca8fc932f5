pub mod WayLaws
pub mod FormLaws
pub mod TraceLaws
pub mod UnderLaws
