-- What the program's words ask for.
pub mod Words
pub mod Command
pub mod Options
pub mod Numbers
pub mod Settings
pub mod Within
pub mod Examples
