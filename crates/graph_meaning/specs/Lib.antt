pub mod Graphs
pub mod Multiples
pub mod Raising
pub mod WellFormed
