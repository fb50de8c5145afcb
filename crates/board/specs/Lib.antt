pub mod Lending
pub mod Paths
pub mod Ranks
pub mod Sweep
pub mod Wires
