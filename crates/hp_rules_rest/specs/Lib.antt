pub mod Foreign
pub mod Select
pub mod Table
pub mod Whole
