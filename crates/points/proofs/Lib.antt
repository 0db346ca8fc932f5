pub mod Valuations
pub mod PointLaws
