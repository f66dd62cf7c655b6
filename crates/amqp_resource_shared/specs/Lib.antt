pub mod ReplyCodes
pub mod Receipts
pub mod Draws
pub mod Kept
pub mod SharedView
pub mod OneStep
pub mod Close
