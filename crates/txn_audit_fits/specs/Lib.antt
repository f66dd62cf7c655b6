pub mod Fits
pub mod Judging
pub mod Passing
pub mod Ending
pub mod Explaining
pub mod Walking
pub mod Departing
pub mod Telling
