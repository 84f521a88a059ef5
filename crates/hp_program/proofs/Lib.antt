pub mod Answered
pub mod Noted
pub mod Selecting
pub mod Drilled
