pub mod DatagramNumbers
pub mod DatagramWriting
pub mod DatagramBack
pub mod DatagramRows
pub mod DatagramClaims
pub mod AnswerBack
pub mod Examples
