mod Examples
pub mod DecimalFunctions
mod DecimalLemmas
mod FieldLemmas
pub mod PrefixFunctions
mod PrefixLemmas
pub mod WholeLemmas
