pub mod Chain
pub mod ChainTexts
pub mod Inside
pub mod Rests
pub mod Provenance
pub mod Texts
pub mod Verify
