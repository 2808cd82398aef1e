mod ListLemmas
mod SumLemmas
mod WholeLemmas
mod OpeningLemmas
mod RunLemmas
