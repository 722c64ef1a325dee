-- Lines of assumptions, word by word.
use Rattle.std.proofs.Common.{◌≡◌, ℕ, List, ◌∷◌, ◌++◌, refl}
use Rattle.ddc_base.specs.Lines.{line}
use Rattle.wheeler.specs.declared.assumption.Assumption.{Assumption}
use Rattle.wheeler.specs.declared.assumption.Assumption.TheVariants.{Implements, Compiles}
use Rattle.verify_commands.specs.Texts.{claim}

-- a line that begins with this word
pub begun : (word : List ℕ) (claimed : Assumption) → line (word ∷ claim claimed) ≡ word ++ 32 ∷ line (claim claimed)
begun word (Implements made source) = refl
begun word (Compiles source stage becomes) = refl
