pub mod FirstGoals
