pub mod Kinds
pub mod Report
