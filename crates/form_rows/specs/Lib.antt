pub mod Meant
pub mod Systems
pub mod Formulas
pub mod Fillings
