pub mod After
pub mod Forms
pub mod Places
pub mod Steps
pub mod Systems
pub mod Under
pub mod Words
