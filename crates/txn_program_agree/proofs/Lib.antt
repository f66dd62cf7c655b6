pub mod Counting
pub mod EachEvent
pub mod Ending
pub mod OneMore
pub mod Reaching
pub mod Turning
pub mod Unmade
