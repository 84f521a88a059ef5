pub mod Elements
pub mod Faults
pub mod Order
pub mod Out
pub mod Parts
pub mod Print
pub mod Shown
pub mod Stack
