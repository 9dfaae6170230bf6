pub mod Charges
pub mod Diff
