-- What becomes of the fragment of a chunk, and of a page in chunks.
pub mod Joining
pub mod Making
pub mod Turns
pub mod Parsed
