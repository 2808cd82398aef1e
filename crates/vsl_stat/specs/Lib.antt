pub mod Glob
pub mod Report
pub mod inside
