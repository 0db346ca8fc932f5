pub mod Counts
pub mod Files
pub mod Faults
pub mod Disk
pub mod Streams
pub mod Memory
pub mod Codes
pub mod Seen
