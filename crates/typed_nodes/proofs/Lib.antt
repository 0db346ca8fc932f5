pub mod CallLaws
pub mod FewerParts
pub mod GrowthLaws
pub mod HomeLaws
pub mod StandLaws
pub mod TypeLaws
