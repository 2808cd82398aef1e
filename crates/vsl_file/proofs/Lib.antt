mod Examples
mod UnitLemmas
mod HeaderLemmas
mod ReaderLemmas
mod ReaderStateLemmas
pub mod FileLemmas
mod EveryFileLemmas
mod WritingLemmas
