pub mod Dimacs
pub mod GoalClauses
