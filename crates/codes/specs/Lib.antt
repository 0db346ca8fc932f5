pub mod Codes
pub mod FormulaShapes
pub mod Shapes
