pub mod Places
pub mod Content
pub mod History
pub mod Items
pub mod Copied
pub mod Stretch
pub mod inside
