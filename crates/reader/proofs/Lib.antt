pub mod Blocks
pub mod Seeks
pub mod Searches
pub mod Openings
