pub mod Alike
pub mod Lending
pub mod Listing
pub mod Making
pub mod Once
pub mod Opening
pub mod Own
