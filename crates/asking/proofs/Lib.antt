pub mod Only
