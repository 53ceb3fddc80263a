pub mod Views
pub mod Expanded
pub mod Names
pub mod Rules
pub mod InputForms
pub mod WellFormed
pub mod Holds
pub mod Outcomes
