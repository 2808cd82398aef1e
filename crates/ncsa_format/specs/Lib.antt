pub mod Formatter
pub mod Civil
pub mod Reading
pub mod Format
pub mod Value
pub mod Line
pub mod Access
pub mod inside
