pub mod Drawings
pub mod Files
pub mod Netlists
pub mod Reads
pub mod Steps
pub mod Verdicts
