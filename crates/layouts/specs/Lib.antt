pub mod Lent
pub mod Layouts
