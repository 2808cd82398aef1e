pub mod Feeds
pub mod inside
