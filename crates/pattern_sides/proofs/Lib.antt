pub mod Names
pub mod UnderLaws
pub mod FormulaLaws
pub mod ValueLaws
pub mod InstanceLaws
pub mod ToldLaws
pub mod SideLaws
