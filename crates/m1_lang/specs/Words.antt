pub mod Words
pub mod Ahead
pub mod Meanings
pub mod Digits
pub mod Numbers
pub mod Forms
pub mod Representation
