pub mod OctetIds
pub mod Payloads
pub mod Reporting
pub mod SlotIds
pub mod Slots
pub mod ToldSteps
