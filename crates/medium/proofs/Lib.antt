pub mod LevelLists
pub mod SetBits
pub mod Fronts
pub mod Refusals
pub mod NodePulls
