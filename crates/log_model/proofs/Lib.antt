pub mod PrefixLemmas
pub mod SumLemmas
pub mod AddingLemmas
mod EscapingLemmas
