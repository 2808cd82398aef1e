pub mod LogFacts
pub mod Partition
pub mod OfUnits
pub mod ChildNames
pub mod inside
