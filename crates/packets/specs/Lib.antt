pub mod Headers
pub mod Blocks
pub mod HeaderClaims
pub mod BlockClaims
pub mod Parts
pub mod Examples
