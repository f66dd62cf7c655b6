pub mod Answers
pub mod Frames
pub mod Links
pub mod Sessions
pub mod Texts
