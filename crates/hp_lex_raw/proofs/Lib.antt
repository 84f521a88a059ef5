pub mod Reading
pub mod Steady
pub mod TextRuns
