pub mod Codes
pub mod Formats
pub mod Decoded
pub mod Texts
