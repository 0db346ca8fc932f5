pub mod Others
pub mod Places
