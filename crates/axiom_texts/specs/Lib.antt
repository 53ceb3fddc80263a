pub mod Asked
pub mod LibraryText
pub mod Written
pub mod Outcomes
