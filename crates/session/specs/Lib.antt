pub mod Calls
pub mod Machine
pub mod Numbers
pub mod Scan
