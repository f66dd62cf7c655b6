pub mod LineCount
pub mod OneEvent
