pub mod Ring
pub mod Cursor
pub mod inside
