pub mod inside
pub mod Operators
pub mod Answers
pub mod Meant
pub mod Parsed
