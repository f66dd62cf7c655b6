pub mod Queues
pub mod Given
pub mod Taking
pub mod Lasting
pub mod Keeping
