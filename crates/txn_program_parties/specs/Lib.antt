pub mod Skipping
pub mod StopLine
