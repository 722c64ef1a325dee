-- The words of a list of files: each stands for a file, and no two of them for one.
use Rattle.std.proofs.Common.{◌≡◌, ℕ, ◌&&◌, ◌||◌, Bool, true, false, if◌then◌else◌, IsTrue, not, None, Some, List, [], ◌∷◌, ◌++◌, length, nat_le, refl, ap, ◌∙◌, subst, arith}
use Rattle.std.specs.Prelude.{bytes_eq}
use Rattle.std.specs.List.{list_all, list_any}
use Rattle.std.proofs.lemmas.Bool.{and_parts, leb-true, ne_eqb, or_parts}
use Rattle.std.proofs.lemmas.List.Elements.{All-nil, All-push}
use Rattle.ddc_base.specs.Limits.{most_files}
use Rattle.mem_files.specs.Names.{begins_with_dot_slash, is_file_name, stripped}
use Rattle.linux_calls.proofs.Texts.{has_zero, name_of_text}
use Rattle.command_plan.specs.Lists.{IsListed, is_listed_byte, is_listed_word, listed_word}
use Rattle.command_plan.proofs.Listing.{holds-listed, parts-of}
use Rattle.tool_commands.specs.Inside.Placing.{AreApart, IsApart}
use Rattle.tool_commands.specs.Scripts.{file_line, names_another}

-- ---- a word

no-zero : (word : List ℕ) → list_all is_listed_byte word ≡ true → has_zero word ≡ false
no-zero [] is = refl
no-zero (byte ∷ bytes) is =
    let parts = and_parts (is_listed_byte byte) (list_all is_listed_byte bytes) is in
    let low = leb-true 0x21 byte (and_parts (nat_le 0x21 byte) (nat_le byte 0x7E) parts.0).0 in
    ap (λ b. b || has_zero bytes) (ne_eqb byte 0 (λ zero. omega (arith, low, zero))) ∙ no-zero bytes parts.1

-- a listed word that stands for a file names one
pub file-named : (earlier : List (List ℕ)) (word : List ℕ) → is_listed_word word ≡ true → names_another earlier word ≡ true → IsTrue (is_file_name (stripped word))
file-named earlier word is other =
    let parts = parts-of word is in
    let short = parts.1 in
    let some = leb-true 1 (length (stripped word)) (and_parts (nat_le 1 (length (stripped word))) (not (list_any (λ listed. bytes_eq (stripped listed) (stripped word)) earlier)) other).0 in
    let named = name_of_text word (omega (arith, short)) (no-zero word parts.2) (λ none. omega (arith, some, none)) in
    (and_parts (is_file_name (stripped word)) (not (begins_with_dot_slash (stripped word))) named).0

pub word-named : (earlier : List (List ℕ)) (line word : List ℕ) → Some word ≡ listed_word line → is_listed_word word ≡ true → names_another earlier line ≡ true
    → IsTrue (is_file_name (stripped word))
word-named earlier line word is listed other = file-named earlier word listed (subst (λ w. names_another earlier w ≡ true) (by (is_listed_word line) is) other) where
  by : (b : Bool) → Some word ≡ (if b then Some line else None) → line ≡ word
  by true is = cc
  by false is = absurd cc

-- ---- a list

apart-more : (words : List (List ℕ)) (word : List ℕ) → AreApart words → list_any (λ listed. bytes_eq (stripped listed) (stripped word)) words ≡ false
    → AreApart (words ++ word ∷ [])
apart-more [] word apart none = (All-nil (IsApart word), tt)
apart-more (first ∷ words) word apart none =
    let parts = or_parts (bytes_eq (stripped first) (stripped word)) (list_any (λ listed. bytes_eq (stripped listed) (stripped word)) words) none in
    (All-push (IsApart first) words word apart.0 parts.0, apart-more words word apart.1 parts.1)

line-apart : (words : List (List ℕ)) (line word : List ℕ) → AreApart words → file_line words line ≡ Some word → AreApart (words ++ word ∷ [])
unfolding file_line
line-apart words line word apart is =
    by (is_listed_word line) (nat_le 1 (length (stripped line))) (list_any (λ listed. bytes_eq (stripped listed) (stripped line)) words) refl is where
      by : (listed some twice : Bool) → list_any (λ listed. bytes_eq (stripped listed) (stripped line)) words ≡ twice → (if listed && (some && not twice) then Some line else None) ≡ Some word
          → AreApart (words ++ word ∷ [])
      by true true false none here =
          let same : line ≡ word = cc in
          subst (λ w. AreApart (words ++ w ∷ [])) same (apart-more words line apart none)
      by true true true none here = absurd cc
      by true false twice none here = absurd cc
      by false some twice none here = absurd cc

-- no two words of a list stand for one file
pub listed-apart : (words : List (List ℕ)) → IsListed file_line most_files words → AreApart words
listed-apart words is = holds-listed file_line most_files AreApart line-apart words tt is
