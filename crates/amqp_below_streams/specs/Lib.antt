pub mod Streams
pub mod Sinks
pub mod Memory
