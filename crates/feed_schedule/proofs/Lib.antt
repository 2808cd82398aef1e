mod Examples
pub mod WriterLemmas
pub mod TurnLemmas
pub mod ReaderLemmas
pub mod StageLemmas
pub mod ScheduleLemmas
pub mod ItemLemmas
mod WaitingLemmas
pub mod PuttingLemmas
mod TakingLemmas
mod TurningLemmas
mod ReplayingLemmas
pub mod UnreadLemmas
mod OrderLemmas
mod TallyLemmas
mod CountingLemmas
