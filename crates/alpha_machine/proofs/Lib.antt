pub mod Displacements
pub mod Standing
pub mod StepsOfRuns
