-- A path without leading `./` is a name as a program's files hold it.
use Rattle.std.proofs.Common.{◌≡◌, ℕ, Bool, true, false, List, [], ◌∷◌, length, Option, Some, None, refl, subst, arith, cond}
use Rattle.std.specs.Prelude.{◌&&◌, ◌==◌, not, nat_le, option_map, bytes_eq, codes}
use Rattle.std.specs.List.{list_all, list_any}
use Rattle.std.proofs.lemmas.Bool.Decides.{nat_tests}
use Rattle.mem_files.specs.Names as files
use Rattle.mem_files.proofs.KeepingCalls.{stripped-is}
use Rattle.recipe.specs.Text.Reading.{is_path, is_path_byte}
use Rattle.recipe.proofs.TextLemmas.Accepted.{both_true, path_of_ok}
use Rattle.recipe.specs.declared.parts.Output.{Output}
use Rattle.recipe.specs.declared.parts.Output.TheVariants.{Stream, File}
use Rattle.recipe.specs.Tables.{guest_path, output_parsed}
use Rattle.recipe.specs.Kept.{IsGuestPath, IsOutput}

not_zero : (byte : ℕ) → is_path_byte byte ≡ true → (byte == 0) ≡ false
not_zero byte is = grind (arith, nat_tests)

no_zero : (text : List ℕ) → list_all is_path_byte text ≡ true → list_any (λ byte. byte == 0) text ≡ false
no_zero [] is = refl
no_zero (byte ∷ text) is =
    let b = both_true (is_path_byte byte) (list_all is_path_byte text) is in
    rw (not_zero byte b.0, no_zero text b.1) refl

joined : (some few : Bool) (any begins : Bool) → some ≡ true → few ≡ true → any ≡ false → begins ≡ false → (some && few && not any && not begins) ≡ true
joined some few any begins a b d e = rw (a, b, d, e) refl

pub guest_path_ok : (text path : List ℕ) → guest_path text ≡ Some path → IsGuestPath path
unfolding is_path
guest_path_ok text path e =
    let p = path_of_ok (files.stripped text) path e in
    let a = both_true (nat_le 1 (length path) && nat_le (length path) 255) (list_all is_path_byte path) p.0 in
    let b = both_true (nat_le 1 (length path)) (nat_le (length path) 255) a.0 in
    record {
      path = p.0;
      stripped = joined (nat_le 1 (length path)) (nat_le (length path) 255) (list_any (λ byte. byte == 0) path) (files.begins_with_dot_slash path) b.0 b.1
          (no_zero path a.1) (subst (λ path. files.begins_with_dot_slash path ≡ false) p.1 (stripped-is text));
    }

some_same : {A : Type 0} (x y : A) → Some x ≡ Some y → x ≡ y
some_same x y e = cc

file_ok : (found : Option (List ℕ)) (output : Output) → ((path : List ℕ) → found ≡ Some path → IsGuestPath path) → option_map File found ≡ Some output → IsOutput output
file_ok None output is e = absurd cc
file_ok (Some path) output is e = subst IsOutput (some_same (File path) output e) (is path refl)

either_ok : (dash : Bool) (found : Option (List ℕ)) (output : Output) → ((path : List ℕ) → found ≡ Some path → IsGuestPath path)
    → cond dash (Some Stream) (option_map File found) ≡ Some output → IsOutput output
either_ok true found output is e = subst IsOutput (some_same Stream output e) tt
either_ok false found output is e = file_ok found output is e

pub output_ok : (text : List ℕ) (output : Output) → output_parsed text ≡ Some output → IsOutput output
output_ok text output e = either_ok (bytes_eq text (codes "-")) (guest_path text) output (guest_path_ok text) e
