pub mod Decide
pub mod BuiltIn
mod Limits
mod Named
mod Printed
mod Printable
mod Once
pub mod Leaves
pub mod Parts
pub mod SlotForms
pub mod SlotNumbers
pub mod InstrForms
pub mod SlotLists
pub mod UseLists
pub mod TableForms
pub mod Clear
pub mod Written
