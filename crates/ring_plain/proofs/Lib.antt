mod PutLemmas
mod ListLemmas
mod RingLemmas
mod DueLemmas
pub mod CursorLemmas
