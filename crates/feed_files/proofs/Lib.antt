pub mod FeedLemmas
pub mod ContentLemmas
