pub mod Sides
pub mod SideTests
pub mod Formulas
