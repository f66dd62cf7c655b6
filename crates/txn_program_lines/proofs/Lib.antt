pub mod Feeds
pub mod Names
pub mod Numbers
pub mod PieceLemmas
pub mod Spelling
