pub mod Visit
pub mod Asked
pub mod Marks
