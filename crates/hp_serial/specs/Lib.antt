-- The HTML text of a tree, and the walk that writes it.
pub mod Escaping
pub mod Html
pub mod Bytes
pub mod Walk
pub mod ReadBack
