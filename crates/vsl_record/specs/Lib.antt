pub mod Blocks
pub mod Bodies
pub mod Payload
pub mod Unit
pub mod Views
pub mod WordFaults
pub mod Words
pub mod inside
