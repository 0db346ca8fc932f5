pub mod PathLabels
pub mod NatLabels
