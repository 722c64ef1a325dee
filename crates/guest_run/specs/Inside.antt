-- How an execution context is represented. No promise depends on these files.
pub mod Bounds
pub mod Codes
pub mod Given
pub mod Stretch
