pub mod inside
pub mod Options
pub mod Patterns
