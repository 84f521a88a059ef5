pub mod Device
pub mod Text
pub mod Page
pub mod Memory
pub mod Streams
