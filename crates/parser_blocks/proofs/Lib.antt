pub mod Others
pub mod Forms
