pub mod GoalLevels
pub mod ProcGoals
pub mod PrintedProcs
pub mod WrittenTerms
pub mod WrittenProcs
pub mod ProcFits
pub mod Embedded
pub mod Leaves
pub mod Sequences
pub mod Items
pub mod VariableSteps
pub mod ListForms
pub mod SetSteps
pub mod BlockForms
pub mod BlockSteps
pub mod ProcParts
pub mod ProcTexts
pub mod ProcOnce
mod Written
mod BlockClear
mod ProcClear
mod ProcLaws
mod ProcWrites
mod ProcSizes
mod ProcKeeps
mod TextWrites
mod Slices
mod NamesFound
