pub mod Terms
pub mod Systems
pub mod Scopes
pub mod Translated
pub mod Forms
pub mod Names
pub mod Texts
pub mod Examples
