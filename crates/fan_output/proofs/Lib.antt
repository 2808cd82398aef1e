pub mod EndLemmas
pub mod PlaceLemmas
mod EachLemmas
mod FanLemmas
pub mod OneLemmas
