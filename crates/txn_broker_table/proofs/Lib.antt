pub mod Words
pub mod Reading
pub mod Fading
pub mod Skipping
pub mod Linkage
pub mod Counting
pub mod Ending
pub mod Pushing
