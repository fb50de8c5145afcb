pub mod Added
pub mod Naming
pub mod Outcomes
pub mod Plans
