pub mod Improved
pub mod LiftedTexts
pub mod ImprovedTexts
pub mod CycleCounts
