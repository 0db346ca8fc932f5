pub mod Coordinates
pub mod OwnPoints
pub mod Joined
pub mod Meeting
pub mod Moved
pub mod Formulas
pub mod Open
