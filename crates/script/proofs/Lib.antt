pub mod Joining
pub mod Lines
pub mod Passing
pub mod Written
