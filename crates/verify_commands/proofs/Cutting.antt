-- Where a line is cut.
use Rattle.std.proofs.Common.{◌≡◌, ℕ, ◌+◌, ◌≤◌, ◌==◌, Bool, true, false, cond, None, Some, List, [], length, nat_lt, refl, arith, take_all}
use Rattle.std.specs.List.{after_first, before_first, position, position_or_len}
use Rattle.std.proofs.lemmas.Bool.Decides.{nat_tests}
use Rattle.std.proofs.lemmas.List.{drop_all}
use Rattle.std.proofs.lemmas.Option.{cond_some}

abbrev blank : ℕ → Bool
blank byte = byte == 32

-- the first blank stands where it was found
pub blank_there : (line : List ℕ) (at : ℕ) → position (λ byte. byte == 32) line ≡ Some at → position_or_len (λ byte. byte == 32) line ≡ at
blank_there line at is = (cond_some (nat_lt (position_or_len blank line) (length line)) (position_or_len blank line) at is).1

past : (line : List ℕ) → position (λ byte. byte == 32) line ≡ None → length line ≤ position_or_len (λ byte. byte == 32) line
past line is = by (nat_lt (position_or_len blank line) (length line)) refl is where
  by : (b : Bool) → nat_lt (position_or_len blank line) (length line) ≡ b → cond b (Some (position_or_len blank line)) None ≡ None → length line ≤ position_or_len blank line
  by true under none = absurd cc
  by false over none = grind (arith, nat_tests)

-- there is none
pub whole_before : (line : List ℕ) → position (λ byte. byte == 32) line ≡ None → before_first (λ byte. byte == 32) line ≡ line
whole_before line is = take_all (position_or_len blank line) line (past line is)

pub none_after : (line : List ℕ) → position (λ byte. byte == 32) line ≡ None → after_first (λ byte. byte == 32) line ≡ []
none_after line is = let after = past line is in drop_all (position_or_len blank line + 1) line (omega (arith, after))
