pub mod Report
pub mod Counting
pub mod inside
