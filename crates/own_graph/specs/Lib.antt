pub mod Rows
pub mod Own
pub mod OwnView
pub mod Meaning
