pub mod Making
pub mod Reading
pub mod AtText
pub mod Known
pub mod Guessing
