pub mod Keys
pub mod Calling
