-- Blanks, comments and names, a byte on.
use Rattle.std.proofs.Common.{◌≡◌, ℕ, ◌+◌, ◌==◌, true, false, not, List, ◌∷◌, refl, arith}
use Rattle.std.specs.List.{position_or_len}
use Rattle.hex_langs.specs.Items.Tokens.{gap_from, is_blank, ends_name}
use Rattle.hex_langs.specs.Hex0.{begins_comment}

pub gap_from-comment : (byte : ℕ) (remaining : List ℕ) → gap_from true (byte ∷ remaining) ≡ 1 + gap_from (not (byte == 10)) remaining
gap_from-comment byte remaining = omega arith

pub gap_from-sign : (byte : ℕ) (remaining : List ℕ) → begins_comment byte ≡ true → gap_from false (byte ∷ remaining) ≡ 1 + gap_from true remaining
gap_from-sign byte remaining is = rw is (omega arith)

pub gap_from-blank : (byte : ℕ) (remaining : List ℕ) → begins_comment byte ≡ false → is_blank byte ≡ true → gap_from false (byte ∷ remaining) ≡ 1 + gap_from false remaining
gap_from-blank byte remaining code is = rw code (rw is (omega arith))

pub gap_from-other : (byte : ℕ) (remaining : List ℕ) → begins_comment byte ≡ false → is_blank byte ≡ false → gap_from false (byte ∷ remaining) ≡ 0
gap_from-other byte remaining code is = rw code (rw is refl)

pub name-more : (byte : ℕ) (remaining : List ℕ) → ends_name byte ≡ false → position_or_len ends_name (byte ∷ remaining) ≡ 1 + position_or_len ends_name remaining
name-more byte remaining is = rw is refl

pub name-done : (byte : ℕ) (remaining : List ℕ) → ends_name byte ≡ true → position_or_len ends_name (byte ∷ remaining) ≡ 0
name-done byte remaining is = rw is refl
