pub mod OutLines
pub mod Stopping
