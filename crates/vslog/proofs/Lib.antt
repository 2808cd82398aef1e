mod WorkLemmas
mod PartLemmas
mod PlainLemmas
