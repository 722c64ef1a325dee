pub mod Arithmetic
pub mod Atomics
pub mod Hart
pub mod Meaning
pub mod Inside
pub mod WithoutAtomics
