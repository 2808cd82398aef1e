pub mod Replaying
pub mod Schedule
pub mod Unread
pub mod inside
