pub mod Few
pub mod Keeping
pub mod Closing
pub mod Counting
pub mod ReceiptLaws
pub mod Codes
