-- No word has a blank or an LF in it.
use Rattle.std.proofs.Common.{◌≡◌, ℕ, ◌+◌, ◌/◌, ◌%◌, ◌<◌, ◌^◌, ◌==◌, Bool, true, false, List, [], ◌∷◌, ◌++◌, slice_index, decimal, refl, arith}
use Rattle.std.specs.Prelude.{nat_lt}
use Rattle.std.specs.List.{list_all}
use Rattle.std.proofs.lemmas.Fmt.{decimal_by_steps}
use Rattle.std.proofs.lemmas.Bool.{and_parts, agree_below_at}
use Rattle.std.proofs.lemmas.Bool.Decides.{Decides-ltb, nat_tests}
use Rattle.std.proofs.lemmas.List.Elements.{All-head, All-tail}
use Rattle.hex.specs.Hex.{encode_with, encode_lower, lower_digits}
use Rattle.ddc_base.specs.Names.{is_name_byte, is_name, IsName}
use Rattle.ddc_base.specs.Languages.Words.{language_word}
use Rattle.ddc_base.specs.declared.languages.Language.{Language}
use Rattle.ddc_base.specs.declared.languages.Language.TheVariants.{Hex0, Hex1, Hex2, M1}
use Rattle.report.specs.Reports.{AreBytes}
use Rattle.report.proofs.Cuts.{Without}

abbrev pub is_plain : ℕ → Bool
is_plain b = nat_lt 32 b

abbrev pub Plain : List ℕ → Type 0
Plain text = list_all is_plain text ≡ true

not_blank : (b : ℕ) → is_plain b ≡ true → (b == 32) ≡ false
not_blank b h = grind (arith, nat_tests)

not_feed : (b : ℕ) → is_plain b ≡ true → (b == 10) ≡ false
not_feed b h = grind (arith, nat_tests)

pub no_blank : (text : List ℕ) → Plain text → Without 32 text
no_blank [] h = tt
no_blank (b ∷ text) h = let p = and_parts (is_plain b) (list_all is_plain text) h in (not_blank b p.0, no_blank text p.1)

pub no_feed : (text : List ℕ) → Plain text → Without 10 text
no_feed [] h = tt
no_feed (b ∷ text) h = let p = and_parts (is_plain b) (list_all is_plain text) h in (not_feed b p.0, no_feed text p.1)

plain_append : (a b : List ℕ) → Plain a → Plain b → Plain (a ++ b)
plain_append [] b h k = k
plain_append (x ∷ a) b h k = let p = and_parts (is_plain x) (list_all is_plain a) h in rw (p.0, plain_append a b p.1 k) refl

one_plain : (d : ℕ) → Plain ((48 + d) ∷ [])
one_plain d =
    let digit : is_plain (48 + d) ≡ true = (Decides-ltb 32 (48 + d)).1 (omega arith) in
    rw digit refl

pub decimal_plain : (n : ℕ) → n < 2 ^ 64 → Plain (decimal n)
decimal_plain n small = decimal_by_steps (λ _ ds. Plain ds) (λ m lt. one_plain m) (λ m ds ge h. plain_append ds ((48 + m % 10) ∷ []) h (one_plain (m % 10))) n small

letter_plain : (b : ℕ) → is_name_byte b ≡ true → is_plain b ≡ true
letter_plain b h = grind (arith, nat_tests)

letters_plain : (text : List ℕ) → list_all is_name_byte text ≡ true → Plain text
letters_plain [] h = refl
letters_plain (b ∷ text) h = let p = and_parts (is_name_byte b) (list_all is_name_byte text) h in rw (letter_plain b p.0, letters_plain text p.1) refl

pub name_plain : (name : List ℕ) → IsName name → Plain name
unfolding is_name
name_plain name is = letters_plain name (grind (arith, nat_tests))

hex_digit_plain : (d : ℕ) → d < 16 → is_plain (slice_index lower_digits d) ≡ true
hex_digit_plain d lt = agree_below_at (λ k. is_plain (slice_index lower_digits k)) (λ _. true) 16 d refl lt

pub hex_plain : (bytes : List ℕ) → AreBytes bytes → Plain (encode_lower bytes)
unfolding encode_with
hex_plain [] small = refl
hex_plain (b ∷ bytes) small =
    let first : b < 256 = All-head (λ byte. byte < 256) b bytes small in
    rw (hex_digit_plain (b / 16) (omega arith), hex_digit_plain (b % 16) (omega arith), hex_plain bytes (All-tail (λ byte. byte < 256) b bytes small)) refl

pub language_plain : (language : Language) → Plain (language_word language)
unfolding language_word
language_plain Hex0 = refl
language_plain Hex1 = refl
language_plain Hex2 = refl
language_plain M1 = refl
