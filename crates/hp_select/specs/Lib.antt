-- Selectors: their grammar, what they match, and the walk that finds it.
pub mod Grammar
pub mod Matching
pub mod Selected
pub mod Rows
pub mod Walk
pub mod Reading
pub mod Examples
