pub mod Classes
pub mod Listing
pub mod Matches
pub mod Found
pub mod Bindings
pub mod ByOperator
