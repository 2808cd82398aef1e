pub mod Cut
pub mod Draft
pub mod Escapes
pub mod Moment
pub mod Read
pub mod Runs
pub mod Wanted
