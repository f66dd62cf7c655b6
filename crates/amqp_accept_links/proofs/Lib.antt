pub mod Opened
pub mod Stopping
