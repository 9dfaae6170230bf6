pub mod Samples
pub mod Firsts
pub mod Members
pub mod Gives
