pub mod PiLabels
pub mod SigmaLabels
