-- What only the private steps of this crate say.
pub mod Rule
pub mod Writing
pub mod Reading
pub mod Closing
pub mod Steps
