pub mod SystemLabels
pub mod CompLabels
