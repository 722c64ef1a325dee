use Rattle.std.proofs.Common.{◌≡◌, ℕ, Bool, true, false, List, bytes_eq, codes, refl}
use Rattle.std.specs.Bool.{Decides}
use Rattle.std.proofs.lemmas.Slice.Eq.{bytes_eq-Decides}
use Rattle.ddc_app.proofs.command_word.CommandWord.first.Goals as goal

-- a text that is not this one
differs : {P : Type 0} (b : Bool) → Decides b P → (P → ⊥) → b ≡ false
differs true is not = absurd (not (is.0 refl))
differs false is not = refl

is_other : (word other : List ℕ) → (word ≡ other → ⊥) → bytes_eq word other ≡ false
is_other word other not = differs (bytes_eq word other) (bytes_eq-Decides word other) not

pub returns-in_default : goal.returns-in_default
returns-in_default c =
    rw (is_other c.args.word.now (codes "--help") c.in_default.not-text, is_other c.args.word.now (codes "--version") c.in_default.not-text-2) c.named.ensures
