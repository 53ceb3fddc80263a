pub mod Shapes
pub mod Families
pub mod Names
pub mod Unaligned
pub mod Libraries
pub mod Asked
