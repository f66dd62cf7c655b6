pub mod Checked
pub mod Ordered
pub mod Reviewed
