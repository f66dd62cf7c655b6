pub mod Marks
pub mod Linking
