pub mod Word
pub mod Write
pub mod Bits
