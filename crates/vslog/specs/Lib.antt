pub mod Words
pub mod Messages
pub mod Theorem
pub mod Plain
pub mod Command
pub mod inside
