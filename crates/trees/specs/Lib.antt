pub mod Operators
pub mod Trees
pub mod Language
pub mod Judgements
pub mod Things
pub mod Claims
pub mod Claimed
