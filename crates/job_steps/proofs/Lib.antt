pub mod StepFacts
mod WordLemmas
mod ObjectLemmas
pub mod TookLemmas
mod AppendLemmas
mod QueryLemmas
mod FeedStepLemmas
mod FitLemmas
mod NamesLemmas
pub mod BegunLemmas
pub mod GoodLemmas
