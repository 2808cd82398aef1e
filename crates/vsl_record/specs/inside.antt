-- What only the private steps of this crate say.
pub mod Blocks
pub mod UnitReading
pub mod Writing
