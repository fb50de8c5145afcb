pub mod Catalogue
pub mod Gen
pub mod Kind
pub mod Line
pub mod Uart
