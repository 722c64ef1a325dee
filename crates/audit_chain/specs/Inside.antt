-- No promise depends on these files being read.
pub mod Programs
