pub mod Causes
pub mod InMemory
pub mod Putting
pub mod Streams
pub mod Taking
