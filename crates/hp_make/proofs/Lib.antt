pub mod PageLemmas
pub mod AsciiLemmas
