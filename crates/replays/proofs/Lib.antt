pub mod Text
pub mod Records
pub mod Forms
pub mod Rule
pub mod Runs
pub mod Replays
