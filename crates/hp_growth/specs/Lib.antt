pub mod Marking
pub mod Growing
pub mod Reaching
pub mod Telling
pub mod Laws
