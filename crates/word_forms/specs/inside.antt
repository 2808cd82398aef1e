-- What only the private steps of this crate say.
pub mod Steps
