mod AskerLemmas
mod Examples
mod JoinLemmas
pub mod MarkLemmas
mod TruthLemmas
