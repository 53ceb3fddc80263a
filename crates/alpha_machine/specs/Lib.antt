pub mod Refusals
pub mod Runs
pub mod States
pub mod Steps
