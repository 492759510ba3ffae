pub mod Stored
pub mod Claims
pub mod Parts
pub mod Examples
