pub mod Answered
pub mod Judged
pub mod Written
pub mod Exactly
pub mod PositionParsed
pub mod SaveLengths
pub mod Origins
