pub mod File
pub mod ReaderState
pub mod inside
