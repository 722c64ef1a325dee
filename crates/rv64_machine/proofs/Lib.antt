pub mod ActLemmas
pub mod StoredBytes
pub mod Acts
pub mod Keeping
pub mod Numbers
pub mod ActsWithoutAtomics
