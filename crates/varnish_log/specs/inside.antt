-- What only the private steps of this crate say.
pub mod Places
pub mod Views
pub mod Written
pub mod Writers
pub mod Taking
pub mod Copying
