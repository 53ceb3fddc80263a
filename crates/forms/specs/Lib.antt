pub mod Forms
pub mod Faults
pub mod Reading
pub mod Printing
