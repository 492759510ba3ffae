pub mod Claims
pub mod Arriving
pub mod CarriedOctets
pub mod Rule
