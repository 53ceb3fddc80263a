pub mod Verdicts
pub mod Soundness
pub mod Reports
