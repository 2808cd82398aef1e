pub mod GroupLemmas
pub mod StandsLemmas
