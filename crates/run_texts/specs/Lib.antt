pub mod LineReading
pub mod Reports
pub mod RunFaults
pub mod RunTexts
pub mod SoFar
