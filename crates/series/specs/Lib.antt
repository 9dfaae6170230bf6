pub mod Sample
pub mod Series
pub mod Reader
pub mod Gives
