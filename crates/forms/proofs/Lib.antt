pub mod First
pub mod Views
pub mod Told
pub mod Unique
pub mod Printed
