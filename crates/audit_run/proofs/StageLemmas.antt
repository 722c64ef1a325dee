pub mod Walking
pub mod Lines
pub mod Joining
pub mod Placing
