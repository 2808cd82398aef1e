pub mod Ends
pub mod Fan
pub mod Laws
pub mod Messages
pub mod Unwritten
pub mod inside
