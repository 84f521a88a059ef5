pub mod GoesOn
pub mod Over
pub mod Laws
pub mod Tokens
