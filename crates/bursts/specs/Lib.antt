pub mod Bursts
pub mod Parts
pub mod BurstClaims
pub mod Examples
