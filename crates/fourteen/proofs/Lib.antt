pub mod Tests
pub mod Fourteen
