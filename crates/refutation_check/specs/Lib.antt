pub mod LineText
pub mod LineWords
pub mod Marked
pub mod Placing
