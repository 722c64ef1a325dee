-- What serves the split of the code. No promise of a command depends on these files being read.
pub mod Keeping
pub mod Refusing
pub mod Resuming
pub mod Words
