pub mod UniqueLaws
pub mod PrefixLaws
pub mod ExistLaws
pub mod SoundLaws
