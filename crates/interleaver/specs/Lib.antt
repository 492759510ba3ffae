pub mod Lanes
pub mod Reading
pub mod Writing
