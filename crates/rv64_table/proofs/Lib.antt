pub mod Masks
pub mod OpRows
pub mod Apart
pub mod RowIndices
pub mod RowsByField
