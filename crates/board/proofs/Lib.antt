pub mod Flattening
pub mod PinSets
pub mod Routes
pub mod Sweeping
pub mod Ways
