mod Examples
pub mod PushLemmas
pub mod EntriesLemmas
pub mod LapLemmas
pub mod TakenLemmas
pub mod AgreedLemmas
pub mod StartLemmas
pub mod ReadingLemmas
pub mod ItemsLemmas
pub mod CopiesLemmas
mod BytesLemmas
pub mod NumberLemmas
pub mod NumberedLemmas
pub mod MetLemmas
