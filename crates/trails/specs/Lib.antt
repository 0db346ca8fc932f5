pub mod Kids
pub mod Parts
pub mod Openings
pub mod Stations
pub mod Trails
pub mod Rows
