pub mod Adding
pub mod Escaping
pub mod Faults
pub mod Halts
pub mod Interleaving
pub mod Prefix
