pub mod Slot
pub mod Lends
pub mod Thin
pub mod Values
