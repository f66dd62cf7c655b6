pub mod Begun
pub mod Locked
pub mod Declares
pub mod Attaches
pub mod Owned
pub mod Transactions
pub mod Discharges
