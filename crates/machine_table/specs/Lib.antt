pub mod InstrOrder
pub mod Tables
pub mod Printing
pub mod Roles
pub mod Grammar
pub mod Reading
