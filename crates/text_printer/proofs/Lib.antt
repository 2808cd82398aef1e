pub mod DueLemmas
mod AloneLemmas
mod NextLemmas
