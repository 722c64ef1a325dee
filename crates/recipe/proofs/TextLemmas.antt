pub mod Accepted
pub mod Arrays
pub mod Members
pub mod NoTexts
pub mod Sated
pub mod Walks
