pub mod FixedLaws
pub mod SideLaws
pub mod CountLaws
pub mod GrowthLaws
pub mod HeldLaws
pub mod FaceLaws
pub mod LineLaws
pub mod AlignedLaws
