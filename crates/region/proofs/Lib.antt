pub mod TableLaws
pub mod SlotLaws
pub mod LayoutLaws
pub mod RegionLaws
