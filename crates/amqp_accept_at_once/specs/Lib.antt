pub mod AtOnce
pub mod AtOnceLaws
pub mod AtOnceReviews
