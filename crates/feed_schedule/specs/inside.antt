-- What only the private steps of this crate say.
pub mod Counting
pub mod Turning
