pub mod Lines
pub mod Runs
pub mod GoesOn
pub mod Rule
pub mod Lists
