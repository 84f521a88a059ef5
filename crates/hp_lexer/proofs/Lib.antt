pub mod Parts
pub mod Falling
pub mod Runs
pub mod Ending
pub mod Steady
pub mod Opening
pub mod Loads
pub mod Placing
mod PlacedSteps
pub mod Direct
