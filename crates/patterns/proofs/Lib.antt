pub mod SameLaws
pub mod NormalLaws
pub mod Soundness
pub mod ExampleProofs
pub mod Differences
pub mod Large
pub mod Page
