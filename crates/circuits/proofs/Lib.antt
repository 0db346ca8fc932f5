pub mod FixLaws
pub mod EvaluateLaws
pub mod SpreadLaws
pub mod PlaceLaws
