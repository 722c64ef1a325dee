mod Turns
mod Composing
pub mod RestsLemmas
pub mod OriginLemmas
pub mod Settling
