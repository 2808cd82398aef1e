pub mod Faults
pub mod Commands
pub mod Theorem
pub mod Texts
pub mod Told
pub mod inside
