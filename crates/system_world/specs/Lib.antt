pub mod Questions
pub mod Printed
pub mod RealWorld
pub mod inside
