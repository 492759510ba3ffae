pub mod Bits
pub mod Order
pub mod Refusals
pub mod Octets
