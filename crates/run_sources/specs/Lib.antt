pub mod Sources
pub mod Laws
pub mod Told
pub mod Live
