mod TableChecks
pub mod NameLemmas
pub mod RankLemmas
mod GlobLemmas
mod TagSetLemmas
mod Examples
pub mod CalledLemmas
