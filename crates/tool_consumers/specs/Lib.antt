pub mod Output
pub mod Consumers
pub mod inside
