mod SumLemmas
mod RuleLemmas
mod PassLemmas
