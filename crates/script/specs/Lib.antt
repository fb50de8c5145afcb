pub mod Calls
pub mod Moments
pub mod Scripts
pub mod Settings
pub mod Spots
pub mod Words
