pub mod Split
pub mod Grafts
pub mod Joining
pub mod Naming
pub mod Laws
pub mod Examples
