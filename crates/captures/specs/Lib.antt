pub mod Lines
pub mod Captures
pub mod Rule
pub mod Claims
pub mod Parts
