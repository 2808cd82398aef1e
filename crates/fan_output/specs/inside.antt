-- What private steps say of one another; no public contract cites these definitions.
pub mod Pieces
pub mod Steps
