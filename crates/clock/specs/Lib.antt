pub mod Time
pub mod Plain
pub mod Superdense
pub mod PlainLaws
pub mod Same
pub mod SuperdenseLaws
