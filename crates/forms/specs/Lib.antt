pub mod Forms
pub mod Claims
pub mod Parts
