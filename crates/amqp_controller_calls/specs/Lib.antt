pub mod Errors
pub mod Sends
pub mod Polls
pub mod Abandoned
