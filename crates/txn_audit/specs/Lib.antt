pub mod AuditInput
pub mod Parting
pub mod Auditing
pub mod Process
