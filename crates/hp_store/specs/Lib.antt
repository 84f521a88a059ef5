pub mod Store
pub mod Lists
pub mod Leaves
pub mod Grafting
pub mod Numbers
pub mod Parts
pub mod Whole
