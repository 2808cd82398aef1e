pub mod Called
pub mod Tags
pub mod Glob
pub mod TagSet
