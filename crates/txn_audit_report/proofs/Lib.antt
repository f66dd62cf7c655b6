pub mod RefusalCodes
pub mod Other
