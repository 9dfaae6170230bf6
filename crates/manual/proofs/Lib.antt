pub mod Maps
pub mod Sizes
pub mod Keys
pub mod Kept
pub mod Settled
pub mod Complete
pub mod Scan
pub mod Example
