pub mod Shares
pub mod Repeats
