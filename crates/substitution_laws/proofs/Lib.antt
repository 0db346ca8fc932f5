pub mod SpanLaws
pub mod NameLaws
