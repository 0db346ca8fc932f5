pub mod NumberLaws
pub mod BuildLaws
pub mod RunLaws
pub mod FlatLaws
