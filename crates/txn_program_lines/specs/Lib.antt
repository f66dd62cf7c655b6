pub mod Cutting
pub mod LineWords
pub mod Lines
pub mod Numbered
pub mod Reads
