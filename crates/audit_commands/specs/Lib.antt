pub mod Audit
pub mod Inside
pub mod PauseTexts
pub mod Pause
pub mod Delta
pub mod Demo
pub mod Show
