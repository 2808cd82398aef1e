mod SeatLemmas
mod EntryLemmas
mod WordLemmas
mod ReaderLemmas
mod RuleLemmas
mod TokenLemmas
mod StoreLemmas
mod CountLemmas
mod PublishLemmas
mod SeatingLemmas
mod CloseLemmas
mod StepLemmas
mod WriterLemmas
mod OpeningLemmas
mod ReadLemmas
mod JoiningLemmas
pub mod AnswerLemmas
mod CopyLemmas
mod WalkLemmas
mod AgreeLemmas
pub mod PassLemmas
