pub mod Faults
pub mod Reading
pub mod Unserved
pub mod Words
pub mod Writing
