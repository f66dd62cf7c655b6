pub mod NodeIds
pub mod Bounded
pub mod BoundedLaws
