pub mod Slots
pub mod Crossing
