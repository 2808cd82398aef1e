pub mod Examples
pub mod Steps
pub mod WordLemmas
pub mod PayloadLemmas
pub mod BlockLemmas
mod MarkLemmas
mod MixedLemmas
mod RecordLemmas
pub mod RecordsLemmas
mod FitsLemmas
pub mod UnitReadingLemmas
mod AnswerLemmas
mod WritingLemmas
mod WroteLemmas
mod ViewLemmas
mod LookLemmas
