pub mod Uuids
pub mod Seeded
