pub mod Deep
pub mod Found
