pub mod NormalLaws
pub mod WorldLaws
pub mod WalkLaws
pub mod LeaveLaws
pub mod SideLaws
pub mod OpenLaws
pub mod FixLaws
