pub mod Recorded
pub mod Planned
