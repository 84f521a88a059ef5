pub mod Letters
pub mod Words
pub mod Rows
pub mod Markup
pub mod Held
pub mod Fine
