pub mod Equations
pub mod Forms
pub mod Ways
pub mod Origins
pub mod Traces
