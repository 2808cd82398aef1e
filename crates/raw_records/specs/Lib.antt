pub mod Lines
pub mod LineRead
pub mod Gathered
pub mod inside
