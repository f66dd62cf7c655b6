pub mod Kept
pub mod Views
pub mod Standing
pub mod Fitting
pub mod Looked
