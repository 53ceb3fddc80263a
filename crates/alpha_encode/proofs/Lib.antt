pub mod CodeSearch
pub mod RoundTrips
