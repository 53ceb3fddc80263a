pub mod Sizes
pub mod Pieces
pub mod Listings
pub mod Claims
pub mod Judging
pub mod Refusals
pub mod OneOutcome
pub mod RefusedBelow
