pub mod Laws
pub mod Truths
pub mod Replaced
pub mod Realized
