pub mod BehindLaws
pub mod EntryLaws
pub mod TreeLaws
