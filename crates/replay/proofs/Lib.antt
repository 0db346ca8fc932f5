pub mod Equality
mod EachLaws
pub mod FiledLaws
mod HeldLaws
pub mod NamedLaws
pub mod ThingLaws
pub mod SideLaws
pub mod NodeLaws
pub mod RowLaws
pub mod ShiftLaws
pub mod RootLaws
pub mod FileLaws
pub mod MakerLaws
