-- The report of a journal, what one step adds to it, and reports by example.
pub mod Report
pub mod Noting
pub mod Examples
