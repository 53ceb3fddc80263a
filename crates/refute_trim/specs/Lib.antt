pub mod Marks
pub mod Needed
pub mod OtherLines
pub mod Outcomes
pub mod Trimmed
pub mod TrimmedAnswers
