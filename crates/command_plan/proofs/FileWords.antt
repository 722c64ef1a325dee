-- Words of bytes that pass a test as names of files.
use Rattle.std.proofs.Common.{◌≡◌, ℕ, ◌==◌, ◌&&◌, ◌||◌, Bool, true, false, IsTrue, List, [], ◌∷◌, length, nat_le, ne_eqb, refl, sym, ap, ap₂, ◌∙◌}
use Rattle.std.specs.Prelude.{not}
use Rattle.std.specs.List.{list_all, list_any}
use Rattle.std.proofs.lemmas.Bool.{and_parts}
use Rattle.command_plan.specs.Words.{is_file_word}

module _ (passes : ℕ → Bool) (zero_fails : passes 0 ≡ false) where
  no-zero : (word : List ℕ) → list_all passes word ≡ true → list_any (λ byte. byte == 0) word ≡ false
  no-zero [] all = refl
  no-zero (byte ∷ bytes) all =
      let parts = and_parts (passes byte) (list_all passes bytes) all in
      let some : byte == 0 ≡ false = ne_eqb byte 0 (λ is. let clash : true ≡ false = sym parts.0 ∙ ap passes is ∙ zero_fails in cc) in
      ap₂ (λ a b. a || b) some (no-zero bytes parts.1)

  -- 1 to 255 such bytes are a name, where no zero byte passes
  pub names : (word : List ℕ) → (nat_le 1 (length word) && nat_le (length word) 255 && list_all passes word) ≡ true → IsTrue (is_file_word word)
  names word is =
      let parts = and_parts (nat_le 1 (length word) && nat_le (length word) 255) (list_all passes word) is in
      ap₂ (λ a b. a && not b) parts.0 (no-zero word parts.1)
