pub mod Pieces
pub mod Trailers
pub mod Headers
pub mod Lowest
pub mod Tallies
pub mod Eights
pub mod Checks
pub mod Fresh
