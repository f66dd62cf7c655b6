pub mod Shown
pub mod Reported
