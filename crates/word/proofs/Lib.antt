pub mod Bytes
pub mod Lent
pub mod WordBits
pub mod Laws
