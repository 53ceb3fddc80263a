pub mod GraphRows
pub mod Plain
pub mod Schedules
pub mod Targets
pub mod WellFormed
pub mod Worlds
