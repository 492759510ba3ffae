pub mod Turning
pub mod Packing
pub mod Undone
pub mod Made
