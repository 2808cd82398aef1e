pub mod WholeLemmas
mod FileLemmas
mod MemoryLemmas
pub mod TouchLemmas
pub mod ReadLemmas
pub mod CallLemmas
pub mod AloneLemmas
pub mod CallLaws
pub mod StepLemmas
pub mod StreamLemmas
