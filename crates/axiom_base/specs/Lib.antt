pub mod Rewrites
pub mod Equations
pub mod Conditions
pub mod Computed
pub mod Schemes
pub mod Codes
pub mod Steps
