pub mod AgreeText
pub mod AgreeWords
pub mod Ends
pub mod Playing
pub mod Serving
