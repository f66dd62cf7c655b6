pub mod Held
pub mod Views
pub mod Draws
pub mod Changes
pub mod Looks
