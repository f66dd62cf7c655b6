pub mod Connections
pub mod MemoryConnections
