-- No promise depends on these files.
pub mod Recorded
