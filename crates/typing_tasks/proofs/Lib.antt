pub mod TypingRows
pub mod OutcomeLaws
pub mod SortLaws
pub mod PlanLaws
