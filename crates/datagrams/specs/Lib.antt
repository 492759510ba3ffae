pub mod Datagrams
pub mod DatagramParts
pub mod DatagramClaims
pub mod Examples
