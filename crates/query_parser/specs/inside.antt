pub mod Pieces
pub mod Follows
pub mod Stages
pub mod Reading
