pub mod MessageLayout
pub mod ResponseReading
pub mod MessageClaims
pub mod ResponseClaims
pub mod PacketExamples
pub mod MessageParts
pub mod ResponseParts
