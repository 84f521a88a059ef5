pub mod Table
pub mod Standing
pub mod Running
pub mod Places
