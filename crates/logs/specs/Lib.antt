pub mod Numbers
pub mod Log
pub mod Claims
pub mod Parts
