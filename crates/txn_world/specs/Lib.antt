pub mod Happening
pub mod Serving
pub mod Arriving
pub mod Beginning
pub mod Attaching
