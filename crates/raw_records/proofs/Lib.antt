pub mod Examples
pub mod GatheredLemmas
pub mod LineLemmas
mod NameLemmas
pub mod ReadingLemmas
