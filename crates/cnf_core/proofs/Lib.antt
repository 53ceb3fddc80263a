pub mod Counting
pub mod Scanning
pub mod Range
pub mod Rows
pub mod Sound
pub mod Splitting
pub mod Truth
