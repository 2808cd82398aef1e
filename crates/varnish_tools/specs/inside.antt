-- What private steps say of one another; no public contract cites these definitions.
pub mod Ready
pub mod Works
