-- What the contracts of private functions mention. No promise depends on these files being read.
pub mod Holdings
pub mod Refusing
pub mod Replays
