-- What only the private steps of this crate say.
pub mod Stores
pub mod Due
