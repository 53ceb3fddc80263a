pub mod Views
pub mod WellFormed
pub mod Goals
pub mod ProcForms
pub mod ProcRoles
pub mod ProcGrammar
pub mod ProcReading
