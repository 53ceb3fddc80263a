pub mod Decided
pub mod NamedFamilies
pub mod Exact
pub mod OptionSteps
pub mod DoneWork
pub mod Spelled
pub mod Values
