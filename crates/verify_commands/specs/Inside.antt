-- No promise depends on these definitions.
pub mod Ends
pub mod BasisTexts
pub mod FoundTexts
