pub mod Kept
pub mod Truths
