pub mod Receivers
pub mod Acquisitions
pub mod Ends
