pub mod Snoc
pub mod Parents
pub mod Outers
pub mod Marked
pub mod Rooted
pub mod Grown
pub mod Ways
