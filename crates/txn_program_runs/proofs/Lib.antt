pub mod Makes
pub mod Memory
pub mod Midway
pub mod MadeRuns
pub mod Endings
pub mod Runs
