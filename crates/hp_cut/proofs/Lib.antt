pub mod Ends
pub mod Firsts
pub mod Listing
pub mod Takes
