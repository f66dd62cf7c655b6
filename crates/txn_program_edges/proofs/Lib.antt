pub mod Readers
pub mod Streaming
pub mod WordLemmas
