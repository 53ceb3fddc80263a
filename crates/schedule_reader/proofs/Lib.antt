pub mod Walk
pub mod Order
