pub mod Remainder
pub mod Claims
pub mod Words
