pub mod Lines
pub mod OneRecord
