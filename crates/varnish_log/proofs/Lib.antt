mod Examples
mod TagLemmas
mod EntryLemmas
mod WrittenLemmas
mod TakingLemmas
mod CopyingLemmas
mod FirstLemmas
mod PartLemmas
