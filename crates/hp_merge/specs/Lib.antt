-- The committed front, what a fragment makes of it, and when it may.
pub mod Fore
pub mod Sound
pub mod Joined
pub mod Checked
pub mod Cost
pub mod Parts
pub mod Laws
