pub mod Inputs
pub mod Parts
