pub mod Division
pub mod Check
pub mod Linear
pub mod Register
pub mod Products
pub mod Claims
