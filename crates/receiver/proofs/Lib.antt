pub mod Arriving
pub mod StoreBlocks
pub mod Taking
pub mod BlockNumbers
pub mod OnBlock
pub mod Claims
pub mod Ends
