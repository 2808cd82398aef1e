pub mod Sources
pub mod Counters
pub mod Rows
pub mod Converts
pub mod Runs
pub mod Told
pub mod Good
pub mod inside
