pub mod Positions
pub mod Indexing
pub mod Agreeing
pub mod Answered
pub mod Exactly
pub mod NamesKept
pub mod Leaving
pub mod TakenAlike
