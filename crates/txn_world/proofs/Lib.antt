pub mod Stopping
pub mod Saying
pub mod Attached
pub mod Arrivals
pub mod Seen
