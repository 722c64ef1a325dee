-- No promise depends on these files being read.
pub mod RunLaws
pub mod AssemblyLaws
pub mod Trusting
pub mod LargestLaws
pub mod MacroLaws
pub mod MacroOrLaws
pub mod OtherLaws
