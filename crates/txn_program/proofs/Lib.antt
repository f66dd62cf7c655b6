pub mod Memory
pub mod Unthreaded
