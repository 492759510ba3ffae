pub mod History
pub mod Run
pub mod Claims
pub mod Sending
