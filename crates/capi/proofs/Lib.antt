pub mod Behind
pub mod BurstNumbers
pub mod Making
pub mod PacketNumbers
