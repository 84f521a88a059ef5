pub mod Letters
pub mod Rows
pub mod Raw
pub mod Fine
