pub mod Unions
pub mod Wiring
