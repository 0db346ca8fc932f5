pub mod TableLaws
pub mod OptionLaws
pub mod MeaningLaws
pub mod HeldLaws
pub mod CutLaws
pub mod CountLaws
pub mod StoreLaws
