pub mod Completing
pub mod Ends
pub mod Made
pub mod RunWords
pub mod Running
pub mod Serving
