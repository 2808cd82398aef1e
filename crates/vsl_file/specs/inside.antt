-- What only the private steps of this crate say.
pub mod FileReading
pub mod ReaderSteps
pub mod Writing
