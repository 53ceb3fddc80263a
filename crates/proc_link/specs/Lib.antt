pub mod Blocks
pub mod Linked
pub mod Follows
pub mod Placed
pub mod Worked
pub mod LinkedLines
pub mod ProcAnswers
pub mod Appended
