pub mod Accepted
pub mod Deliveries
pub mod Firings
pub mod Imminence
pub mod Outcomes
pub mod Running
pub mod Verdicts
