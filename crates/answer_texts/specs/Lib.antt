pub mod AnswerLines
pub mod AnswerParts
pub mod Lent
pub mod LineParts
pub mod Printable
pub mod ReadAnswers
pub mod WellFormed
