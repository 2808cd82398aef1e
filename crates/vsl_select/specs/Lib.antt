pub mod RawLine
pub mod Lines
pub mod Showing
pub mod Shown
pub mod FileUnits
pub mod inside
