-- What only the private steps of this crate say.
pub mod Gathering
pub mod Making
pub mod Partly
pub mod Raises
pub mod Putting
