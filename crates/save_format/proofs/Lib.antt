pub mod Texts
pub mod Written
pub mod ByteFieldsLemmas
pub mod Origins
pub mod StateTextLemmas
pub mod PatchTextLemmas
pub mod DeltaTextLemmas
