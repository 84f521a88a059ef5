pub mod Spelled
pub mod Compared
pub mod WordSteps
pub mod Steady
