pub mod Ids
pub mod Drawn
pub mod Listed
pub mod Counted
