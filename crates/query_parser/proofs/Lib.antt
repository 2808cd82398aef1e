mod CriterionFaults
mod CriterionNames
mod CriterionPieces
pub mod Stacks
pub mod Wholes
pub mod Follow
pub mod Moves
pub mod Driving
pub mod LinesRead
pub mod TreesMeant
