pub mod Values
pub mod Sections
pub mod Fields
pub mod Messages
pub mod Canon
pub mod Reading
pub mod Walks
pub mod Discharges
