pub mod Lookups
pub mod Sights
pub mod Stores
pub mod Changes
pub mod Creates
