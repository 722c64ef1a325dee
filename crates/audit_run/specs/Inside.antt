-- What serves the code's split. No promise depends on these files being read.
pub mod Codes
pub mod Parts
