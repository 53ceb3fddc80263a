pub mod Names
mod Trees
pub mod Owns
pub mod Heads
mod Atoms
mod Apart
mod Operands
pub mod Fixed
pub mod NewNames
mod Ranks
mod OneTerm
mod PoolSteps
mod Sorts
mod Admitting
mod LetScopes
pub mod GoalSteps
pub mod ItemForms
mod TargetForms
pub mod WrittenItems
mod TextFirst
mod Arities
mod LeftSides
pub mod Different
pub mod Keeping
mod Finish
mod Growing
mod VariableSteps
mod AxiomForms
mod TextForms
mod TextSteps
pub mod TextEnd
mod Grouped
pub mod ReadParts
pub mod Walks
pub mod GoalClear
mod AxiomClear
mod TextRead
pub mod Printed
pub mod Moved
pub mod LetForms
pub mod PrintedNames
mod PrintedLets
pub mod PrintedForms
pub mod PrintedTexts
pub mod FormsPrint
pub mod Fitting
pub mod InputPrints
mod WellSorted
pub mod WrittenSizes
mod InputKeeps
mod TermTexts
