pub mod FileLemmas
pub mod FeedLemmas
pub mod ToldLemmas
mod ItemLemmas
