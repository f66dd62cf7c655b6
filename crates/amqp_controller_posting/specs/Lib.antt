pub mod Errors
pub mod Posts
pub mod Retirements
