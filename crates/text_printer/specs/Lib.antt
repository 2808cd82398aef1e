pub mod Held
pub mod Laws
pub mod Printer
pub mod Taken
pub mod inside
