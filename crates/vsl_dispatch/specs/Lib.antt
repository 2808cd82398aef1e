pub mod Groups
pub mod Received
pub mod Entries
pub mod inside
