pub mod Messages
pub mod Promise
