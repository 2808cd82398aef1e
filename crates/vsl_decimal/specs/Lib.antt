pub mod Decimal
pub mod Field
pub mod Prefix
pub mod Whole
pub mod inside
