pub mod Steps
pub mod WordLemmas
pub mod PackedLemmas
pub mod IdLemmas
mod Examples
