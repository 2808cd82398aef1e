mod Examples
pub mod ItemLemmas
mod WordLemmas
