pub mod Graph
pub mod Sorts
pub mod Joined
pub mod Values
pub mod Faults
pub mod Steps
pub mod Keys
pub mod Tables
