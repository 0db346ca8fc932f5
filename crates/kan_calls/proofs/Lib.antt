pub mod CallLaws
pub mod UnfoldLaws
