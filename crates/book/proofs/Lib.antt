pub mod NodeLaws
pub mod BookLaws
pub mod CutLaws
pub mod PremiseLaws
pub mod SideLaws
pub mod FitLaws
pub mod TestLaws
pub mod SpareLaws
