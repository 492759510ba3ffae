pub mod Moving
pub mod Turns
pub mod Known
