pub mod Calls
pub mod Children
pub mod Faults
pub mod Lists
pub mod Questions
pub mod Unique
