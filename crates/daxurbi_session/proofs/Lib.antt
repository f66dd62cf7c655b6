pub mod AsTold
pub mod Checked
pub mod Made
pub mod Told
