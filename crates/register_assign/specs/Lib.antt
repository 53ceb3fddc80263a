pub mod PoolPlaces
pub mod Listings
pub mod Obeys
pub mod Outcomes
pub mod Places
pub mod Assigned
