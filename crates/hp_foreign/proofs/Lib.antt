pub mod Changing
pub mod Inserting
pub mod OwnNode
