pub mod Reception
pub mod Rule
pub mod Claims
