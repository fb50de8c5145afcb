pub mod Fields
pub mod Lines
pub mod Pieces
pub mod Reading
pub mod Rules
pub mod Statements
pub mod Taking
pub mod Verdicts
