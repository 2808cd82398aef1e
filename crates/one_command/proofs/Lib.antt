pub mod PromiseLemmas
mod SaidLemmas
