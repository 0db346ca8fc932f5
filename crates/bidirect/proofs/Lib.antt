pub mod BlockLaws
pub mod CodeLaws
pub mod WeightRows
pub mod FormLaws
pub mod LoopLaws
pub mod CheckedLaws
