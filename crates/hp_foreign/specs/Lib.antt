pub mod Changes
pub mod Fonts
pub mod Plans
pub mod Laws
pub mod Steps
