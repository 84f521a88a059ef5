pub mod KnownLemmas
pub mod MarkLemmas
pub mod SourceLemmas
