pub mod Same
pub mod Spelling
