pub mod Faults
pub mod Told
pub mod Reviewing
pub mod Inner
pub mod Windows
pub mod OneFrame
