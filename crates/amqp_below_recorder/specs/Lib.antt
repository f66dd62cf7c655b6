pub mod Recording
pub mod Vetoing
pub mod RecordedSessions
