mod OneLemmas
mod SourceLemmas
mod ReplayLemmas
mod CounterLemmas
pub mod RowLemmas
mod WrittenLemmas
mod ToldLemmas
mod GoodLemmas
