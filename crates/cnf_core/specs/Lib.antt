pub mod Counter
pub mod Formula
pub mod Statuses
pub mod Outcome
pub mod Pieces
pub mod Refutation
pub mod Values
