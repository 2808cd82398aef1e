pub mod Asker
pub mod Asking
pub mod Marks
pub mod Meaning
pub mod inside
