pub mod Items
pub mod Lookup
pub mod Words
pub mod inside
