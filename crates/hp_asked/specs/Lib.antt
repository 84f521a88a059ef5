pub mod Seeking
pub mod Right
pub mod Singly
pub mod Laws
