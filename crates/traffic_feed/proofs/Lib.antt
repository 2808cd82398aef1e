mod BatchLemmas
mod BegunUnitLemmas
mod BoundLemmas
mod CountedExamples
pub mod CountedLemmas
mod Examples
mod FittingLemmas
mod GatheringLemmas
mod MadeBounds
mod MadeExamples
mod MakingLemmas
mod OrderLemmas
mod PartlyLemmas
mod RawLemmas
mod FeedingLemmas
mod WorkerLemmas
