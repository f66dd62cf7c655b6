pub mod Deciding
pub mod Values
pub mod States
pub mod Performatives
pub mod Steps
