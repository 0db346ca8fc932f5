pub mod RowLaws
pub mod NestLaws
pub mod SystemLaws
pub mod FaceLaws
pub mod FillLaws
