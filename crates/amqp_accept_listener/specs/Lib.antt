pub mod Held
pub mod Listening
pub mod Hearing
pub mod Controlling
pub mod ListenerLaws
pub mod ListenerReviews
