pub mod Messages
pub mod Responses
pub mod MessageClaims
pub mod ResponseClaims
pub mod PacketExamples
pub mod Parts
