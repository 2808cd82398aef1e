mod FileUnitExamples
mod FileUnitLemmas
mod LineLemmas
mod PartLemmas
mod RawLineExamples
mod RowLemmas
mod RuleLemmas
mod ShownExamples
mod ShownLemmas
mod ViewerLemmas
pub mod Examples
pub mod RawLemmas
