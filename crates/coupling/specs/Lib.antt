pub mod Networks
pub mod Rows
pub mod Wiring
