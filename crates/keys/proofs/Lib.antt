pub mod Rows
pub mod Visits
pub mod Listing
pub mod Entries
pub mod Marks
pub mod Lowers
pub mod Sweeps
