pub mod Working
pub mod Tallying
pub mod Replying
pub mod Each
pub mod Joining
pub mod Statuses
pub mod Histories
pub mod RunEnds
