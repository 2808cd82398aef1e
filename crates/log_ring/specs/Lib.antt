pub mod Ring
pub mod Writers
pub mod Readers
pub mod Closed
pub mod inside
