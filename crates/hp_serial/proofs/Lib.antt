pub mod Depths
pub mod Joins
pub mod Steps
pub mod Escapes
pub mod Views
pub mod Entering
pub mod ReadingBack
