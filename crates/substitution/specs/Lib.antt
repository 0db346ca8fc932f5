pub mod Forms
pub mod Action
pub mod Shifts
pub mod Delayed
