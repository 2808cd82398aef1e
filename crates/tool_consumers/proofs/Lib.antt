mod ConsumerLemmas
mod LayoutLemmas
pub mod OutputLemmas
