pub mod Log
pub mod Text
pub mod Rule
pub mod Replay
pub mod Claims
pub mod Parts
