pub mod Order
pub mod References
pub mod BuiltIn
pub mod Longest
pub mod Numeric
pub mod Table
pub mod Search
