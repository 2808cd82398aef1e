pub mod Escapes
pub mod Reading
pub mod Rows
