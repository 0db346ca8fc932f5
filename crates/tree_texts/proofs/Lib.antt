pub mod TextLaws
pub mod TaskLaws
pub mod SideLaws
pub mod WriteLaws
