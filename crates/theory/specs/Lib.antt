pub mod OperatorNames
pub mod RuleNames
