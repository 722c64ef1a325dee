-- A source of digits, blanks and comments gives in hex1 and hex2 the bytes that it gives in hex0.
use Rattle.std.proofs.Common.{◌≡◌, ℕ, suc, ◌+◌, ◌*◌, ◌%◌, ◌≤◌, ◌==◌, Bool, true, false, not, ◌&&◌, ◌||◌, List, [], ◌∷◌, length, drop, map, Option, Some, None, is_some, Ok, IsTrue, refl, sym, ap, subst, ◌∙◌, arith}
use Rattle.std.specs.List.{cons_option, list_all, onto_first}
use Rattle.std.proofs.lemmas.Bool.Decides.{nat_tests}
use Rattle.std.proofs.lemmas.List.{append-nil}
use Rattle.std.proofs.lemmas.List.Splits.{slice_split-cons_no}
use Rattle.ddc_base.specs.Limits.{most_items, most_source}
use Rattle.hex.specs.Hex.{hex_digit_value, is_hex_digit}
use Rattle.hex_langs.specs.declared.items.item.Item.{Item}
use Rattle.hex_langs.specs.declared.items.item.Item.TheVariants as item
use Rattle.hex_langs.specs.declared.items.token.Dialect.{Dialect}
use Rattle.hex_langs.specs.declared.items.token.TokenFault.{TokenFault}
use Rattle.hex_langs.specs.declared.items.token.Token.TheVariants.{Byte}
use Rattle.hex_langs.specs.Hex0.{begins_comment, digits_of, HasEvenDigits, hex0_of, line_feed, lines_of, pairs}
use Rattle.hex_langs.specs.Items.Plain.{is_plain, is_plain_line}
use Rattle.hex_langs.specs.Items.Reading.{Formed, formed, items_of, reading, Whole, with_prefix}
use Rattle.hex_langs.specs.Items.Tokens.{gap_from, gap_length, is_blank, low_digit, opens_gap, pair_at, token_at}
use Rattle.hex_langs.proofs.ItemsLemmas.Gaps.{gap_from-blank, gap_from-comment, gap_from-other, gap_from-sign}
use Rattle.hex_langs.proofs.Hex0Lemmas.{ahead, ahead-code, ahead-comment, ahead-in_comment, ahead-line_feed, before_first-no, before_first-yes, digit-is_code, drop_onto}
use Rattle.hex_langs.proofs.ItemsLemmas.Readings.{gap_length-some, items_of-judged, judged-end, reading-end, reading-gap, reading-token}

-- ---- which sources are plain, a byte on

-- what is left is plain ahead of a reader that stands in a line's code, or in its comment
abbrev plain_ahead : Bool → List ℕ → Bool
plain_ahead false remaining = list_all is_plain_line (lines_of remaining)
plain_ahead true remaining = list_all is_plain_line (drop 1 (lines_of remaining))

plain-line_feed : (in_comment : Bool) (remaining : List ℕ) → plain_ahead in_comment (line_feed ∷ remaining) ≡ plain_ahead false remaining
plain-line_feed false remaining = refl
plain-line_feed true remaining = refl

plain-in_comment : (byte : ℕ) (remaining : List ℕ) → (byte == line_feed) ≡ false → plain_ahead true (byte ∷ remaining) ≡ plain_ahead true remaining
plain-in_comment byte remaining other =
    ap (λ (lines : List (List ℕ)). list_all is_plain_line (drop 1 lines)) (slice_split-cons_no (λ b. b == line_feed) byte remaining other)
    ∙ ap (list_all is_plain_line) (drop_onto byte (lines_of remaining))

onto-comment : (byte : ℕ) (lines : List (List ℕ)) → begins_comment byte ≡ true
    → list_all is_plain_line (onto_first byte lines) ≡ list_all is_plain_line (drop 1 lines)
onto-comment byte [] is = ap (λ (l : List ℕ). list_all (λ b. is_hex_digit b || is_blank b) l && true) (before_first-yes begins_comment byte [] is)
onto-comment byte (line ∷ lines) is =
    ap (λ (l : List ℕ). list_all (λ b. is_hex_digit b || is_blank b) l && list_all is_plain_line lines) (before_first-yes begins_comment byte line is)

plain-comment : (byte : ℕ) (remaining : List ℕ) → (byte == line_feed) ≡ false → begins_comment byte ≡ true
    → plain_ahead false (byte ∷ remaining) ≡ plain_ahead true remaining
plain-comment byte remaining other is =
    ap (list_all is_plain_line) (slice_split-cons_no (λ b. b == line_feed) byte remaining other) ∙ onto-comment byte (lines_of remaining) is

and-both : (a b c : Bool) → (a && b) && c ≡ a && (b && c)
and-both true b c = refl
and-both false b c = refl

onto-code : (byte : ℕ) (lines : List (List ℕ)) → begins_comment byte ≡ false
    → list_all is_plain_line (onto_first byte lines) ≡ (is_hex_digit byte || is_blank byte) && list_all is_plain_line lines
onto-code byte [] code =
    ap (λ (l : List ℕ). list_all (λ b. is_hex_digit b || is_blank b) l && true) (before_first-no begins_comment byte [] code)
    ∙ and-both (is_hex_digit byte || is_blank byte) true true
onto-code byte (line ∷ lines) code =
    ap (λ (l : List ℕ). list_all (λ b. is_hex_digit b || is_blank b) l && list_all is_plain_line lines) (before_first-no begins_comment byte line code)
    ∙ and-both (is_hex_digit byte || is_blank byte) (is_plain_line line) (list_all is_plain_line lines)

plain-code : (byte : ℕ) (remaining : List ℕ) → (byte == line_feed) ≡ false → begins_comment byte ≡ false
    → plain_ahead false (byte ∷ remaining) ≡ (is_hex_digit byte || is_blank byte) && plain_ahead false remaining
plain-code byte remaining other code =
    ap (list_all is_plain_line) (slice_split-cons_no (λ b. b == line_feed) byte remaining other) ∙ onto-code byte (lines_of remaining) code

-- ---- the gap at the front of what is left

gap_none : (byte : ℕ) (remaining : List ℕ) → begins_comment byte ≡ false → is_blank byte ≡ false → gap_length (byte ∷ remaining) ≡ 0
unfolding gap_length
gap_none byte remaining comment blank = gap_from-other byte remaining comment blank

gap-end : gap_length [] ≡ 0
unfolding gap_length
gap-end = refl

-- a gap may be passed over first
appended-gap : (dialect : Dialect) (at : ℕ) (remaining : List ℕ)
    → reading dialect at 0 remaining ≡ reading dialect (at + gap_length remaining) 0 (drop (gap_length remaining) remaining)
appended-gap dialect at [] = reading-end dialect at ∙ sym (ap (λ (n : ℕ). reading dialect (at + n) 0 (drop n [])) gap-end ∙ reading-end dialect (at + 0))
appended-gap dialect at (byte ∷ remaining) = by (opens_gap byte) refl
  where
    by : (opens : Bool) → opens_gap byte ≡ opens
        → reading dialect at 0 (byte ∷ remaining) ≡ reading dialect (at + gap_length (byte ∷ remaining)) 0 (drop (gap_length (byte ∷ remaining)) (byte ∷ remaining))
    by true opens =
        let some = gap_length-some byte remaining opens in
        let more : some.0 + 1 ≡ suc some.0 = omega arith in
        let next : at + (some.0 + 1) ≡ at + 1 + some.0 = omega arith in
        reading-gap dialect at some.0 (at + (some.0 + 1)) byte remaining opens some.1 next
        ∙ ap (λ (n : ℕ). reading dialect (at + (some.0 + 1)) 0 (drop n (byte ∷ remaining))) (sym more)
        ∙ ap (λ (n : ℕ). reading dialect (at + n) 0 (drop n (byte ∷ remaining))) (sym some.1)
    by false none =
        let comment : begins_comment byte ≡ false = grind (arith, nat_tests, none) in
        let blank : is_blank byte ≡ false = grind (arith, nat_tests, none) in
        let nothing : gap_length (byte ∷ remaining) ≡ 0 = gap_none byte remaining comment blank in
        let same : at ≡ at + 0 = omega arith in
        ap (λ (n : ℕ). reading dialect n 0 (byte ∷ remaining)) same
        ∙ ap (λ (n : ℕ). reading dialect (at + n) 0 (drop n (byte ∷ remaining))) (sym nothing)

-- ---- what is read and what hex0 gives, together

-- nothing but these bytes
abbrev bytes_alone : List ℕ → Formed TokenFault
bytes_alone bytes = record { items = map item.Byte bytes; end = Whole }

-- with an even number of digits left the rest gives their pairs
abbrev Even : Dialect → Bool → List ℕ → Type 0
Even dialect in_comment remaining =
    IsTrue (plain_ahead in_comment remaining) → length (ahead in_comment remaining) % 2 ≡ 0 → (at : ℕ)
    → formed None (reading dialect at 0 (drop (gap_from in_comment remaining) remaining)) ≡ bytes_alone (pairs (ahead in_comment remaining))

-- with an odd number one digit stands after the gap, and the pairs of the others follow
record Odd (dialect : Dialect) (in_comment : Bool) (remaining : List ℕ) : Type 0 where
  low : ℕ
  rest : List ℕ
  digits : ahead in_comment remaining ≡ low ∷ rest
  here : low_digit (drop (gap_from in_comment remaining) remaining) ≡ Some low
  later : (at : ℕ) → formed None (reading dialect at 0 (drop (gap_from in_comment remaining + 1) remaining)) ≡ bytes_alone (pairs rest)

abbrev Both : Dialect → Bool → List ℕ → Type 0
Both dialect in_comment remaining =
    Even dialect in_comment remaining × (IsTrue (plain_ahead in_comment remaining) → length (ahead in_comment remaining) % 2 ≡ 1 → Odd dialect in_comment remaining)

-- a byte of a gap takes nothing away
both-skip : (dialect : Dialect) (now next : Bool) (byte : ℕ) (remaining : List ℕ) → gap_from now (byte ∷ remaining) ≡ 1 + gap_from next remaining
    → ahead now (byte ∷ remaining) ≡ ahead next remaining → plain_ahead now (byte ∷ remaining) ≡ plain_ahead next remaining
    → Both dialect next remaining → Both dialect now (byte ∷ remaining)
both-skip dialect now next byte remaining gap digits plain both =
    let more : 1 + gap_from next remaining ≡ suc (gap_from next remaining) = omega arith in
    let size = gap ∙ more in
    let size_on : gap_from now (byte ∷ remaining) + 1 ≡ suc (gap_from next remaining + 1) = omega (arith, gap) in (
      λ is even at. ap (λ (n : ℕ). formed None (reading dialect at 0 (drop n (byte ∷ remaining)))) size
          ∙ both.0 (subst IsTrue plain is) (sym (ap (λ (l : List ℕ). length l % 2) digits) ∙ even) at
          ∙ sym (ap (λ (l : List ℕ). bytes_alone (pairs l)) digits),
      λ is odd.
          let found = both.1 (subst IsTrue plain is) (sym (ap (λ (l : List ℕ). length l % 2) digits) ∙ odd) in
          record {
            low = found.low;
            rest = found.rest;
            digits = digits ∙ found.digits;
            here = ap (λ (n : ℕ). low_digit (drop n (byte ∷ remaining))) size ∙ found.here;
            later = λ at. ap (λ (n : ℕ). formed None (reading dialect at 0 (drop n (byte ∷ remaining)))) size_on ∙ found.later at;
          },
    )

-- the pair of a digit and of the one after the gap
token-pair : (dialect : Dialect) (byte value : ℕ) (remaining : List ℕ) (low : ℕ) → hex_digit_value byte ≡ Some value
    → low_digit (drop (gap_length remaining) remaining) ≡ Some low
    → token_at dialect byte remaining ≡ Ok (Byte (16 * value + low), gap_length remaining + 1)
unfolding token_at pair_at
token-pair dialect byte value remaining low digit here = rw digit (rw here refl)

odd-after : (n : ℕ) → suc n % 2 ≡ 0 → n % 2 ≡ 1
odd-after n even = omega (arith, even)

even-after : (n : ℕ) → suc n % 2 ≡ 1 → n % 2 ≡ 0
even-after n odd = omega (arith, odd)

-- a gap in code is the gap at the front
here-by : (remaining : List ℕ) (low : ℕ) → low_digit (drop (gap_from false remaining) remaining) ≡ Some low → low_digit (drop (gap_length remaining) remaining) ≡ Some low
unfolding gap_length
here-by remaining low here = here

later-by : (dialect : Dialect) (remaining rest : List ℕ)
    → ((at : ℕ) → formed None (reading dialect at 0 (drop (gap_from false remaining + 1) remaining)) ≡ bytes_alone (pairs rest))
    → (at : ℕ) → formed None (reading dialect at 0 (drop (gap_length remaining + 1) remaining)) ≡ bytes_alone (pairs rest)
unfolding gap_length
later-by dialect remaining rest later = later

even-by : (dialect : Dialect) (remaining : List ℕ)
    → ((at : ℕ) → formed None (reading dialect at 0 (drop (gap_from false remaining) remaining)) ≡ bytes_alone (pairs (ahead false remaining)))
    → (at : ℕ) → formed None (reading dialect at 0 (drop (gap_length remaining) remaining)) ≡ bytes_alone (pairs (ahead false remaining))
unfolding gap_length
even-by dialect remaining even = even

-- at a digit
both-digit : (dialect : Dialect) (byte value : ℕ) (remaining : List ℕ) → hex_digit_value byte ≡ Some value
    → Both dialect false remaining → Both dialect false (byte ∷ remaining)
both-digit dialect byte value remaining digit both =
    let code = digit-is_code byte value digit in
    let blank : is_blank byte ≡ false = grind (arith, nat_tests, digit) in
    let opens : opens_gap byte ≡ false = rw blank (rw code.1 refl) in
    let size = gap_from-other byte remaining code.1 blank in
    let digits : ahead false (byte ∷ remaining) ≡ value ∷ ahead false remaining = ahead-code byte remaining code.0 code.1 ∙ ap (λ (o : Option ℕ). cons_option o (ahead false remaining)) digit in
    let test : is_hex_digit byte ≡ true = ap is_some digit in
    let plain : plain_ahead false (byte ∷ remaining) ≡ plain_ahead false remaining = plain-code byte remaining code.0 code.1 ∙ ap (λ (t : Bool). (t || is_blank byte) && plain_ahead false remaining) test in (
      λ is even at.
          let found = both.1 (subst IsTrue plain is) (odd-after _ (sym (ap (λ (l : List ℕ). length l % 2) digits) ∙ even)) in
          let read = reading-token dialect at byte remaining (Byte (16 * value + found.low)) (gap_length remaining + 1) opens (token-pair dialect byte value remaining found.low digit (here-by remaining found.low found.here)) in
          ap (λ (n : ℕ). formed None (reading dialect at 0 (drop n (byte ∷ remaining)))) size
          ∙ ap (formed None) read
          ∙ ap (with_prefix (item.Byte (16 * value + found.low) ∷ [])) (later-by dialect remaining found.rest found.later (at + 1 + (gap_length remaining + 1)))
          ∙ sym (ap (λ (l : List ℕ). bytes_alone (pairs l)) (digits ∙ ap (λ (l : List ℕ). value ∷ l) found.digits)),
      λ is odd. record {
        low = value;
        rest = ahead false remaining;
        digits = digits;
        here = ap (λ (n : ℕ). low_digit (drop n (byte ∷ remaining))) size ∙ digit;
        later = λ at.
            ap (λ (n : ℕ). formed None (reading dialect at 0 (drop (n + 1) (byte ∷ remaining)))) size
            ∙ ap (formed None) (appended-gap dialect at remaining)
            ∙ even-by dialect remaining (both.0 (subst IsTrue plain is) (even-after _ (sym (ap (λ (l : List ℕ). length l % 2) digits) ∙ odd))) (at + gap_length remaining);
      },
    )

not-plain : {test : Bool} → test ≡ false → IsTrue test → ⊥
not-plain is plain = absurd (cc)

-- at another byte of code, which is a blank
both-blank : (dialect : Dialect) (byte : ℕ) (remaining : List ℕ) → (byte == line_feed) ≡ false → begins_comment byte ≡ false → hex_digit_value byte ≡ None
    → Both dialect false remaining → Both dialect false (byte ∷ remaining)
both-blank dialect byte remaining other code none both = by (is_blank byte) refl
  where
    plain_is : plain_ahead false (byte ∷ remaining) ≡ is_blank byte && plain_ahead false remaining
    plain_is = plain-code byte remaining other code ∙ ap (λ (o : Option ℕ). (is_some o || is_blank byte) && plain_ahead false remaining) none

    by : (blank : Bool) → is_blank byte ≡ blank → Both dialect false (byte ∷ remaining)
    by true is =
        both-skip dialect false false byte remaining (gap_from-blank byte remaining code is)
        (ahead-code byte remaining other code ∙ ap (λ (o : Option ℕ). cons_option o (ahead false remaining)) none)
        (plain_is ∙ ap (λ (t : Bool). t && plain_ahead false remaining) is) both
    by false is =
        let never : plain_ahead false (byte ∷ remaining) ≡ false = plain_is ∙ ap (λ (t : Bool). t && plain_ahead false remaining) is in
        (λ plain even at. absurd (not-plain never plain), λ plain odd. absurd (not-plain never plain))

both-code : (dialect : Dialect) (byte : ℕ) (remaining : List ℕ) → (byte == line_feed) ≡ false → begins_comment byte ≡ false → (value : Option ℕ)
    → hex_digit_value byte ≡ value → Both dialect false remaining → Both dialect false (byte ∷ remaining)
both-code dialect byte remaining other code (Some value) is both = both-digit dialect byte value remaining is both
both-code dialect byte remaining other code None is both = both-blank dialect byte remaining other code is both

line_feed-is : (byte : ℕ) → (byte == line_feed) ≡ true → byte ≡ line_feed
line_feed-is byte is = grind (arith, nat_tests, is)

line_feed-gap : (now : Bool) (remaining : List ℕ) → gap_from now (line_feed ∷ remaining) ≡ 1 + gap_from false remaining
line_feed-gap true remaining = gap_from-comment line_feed remaining
line_feed-gap false remaining = gap_from-blank line_feed remaining refl refl

both : (dialect : Dialect) (in_comment : Bool) (remaining : List ℕ) → Both dialect in_comment remaining
both dialect false [] = (λ plain even at. ap (formed None) (reading-end dialect at), λ plain odd. absurd (omega (arith, odd)))
both dialect true [] = (λ plain even at. ap (formed None) (reading-end dialect at), λ plain odd. absurd (omega (arith, odd)))
both dialect in_comment (byte ∷ remaining) = ends (byte == line_feed) refl (both dialect false remaining) (both dialect true remaining) in_comment
  where
    code_or_comment : (comment : Bool) → begins_comment byte ≡ comment → (byte == line_feed) ≡ false → Both dialect false remaining → Both dialect true remaining
        → Both dialect false (byte ∷ remaining)
    code_or_comment true is other in_code in_comment =
        both-skip dialect false true byte remaining (gap_from-sign byte remaining is) (ahead-comment byte remaining other is) (plain-comment byte remaining other is) in_comment
    code_or_comment false is other in_code in_comment = both-code dialect byte remaining other is (hex_digit_value byte) refl in_code

    ends : (end : Bool) → (byte == line_feed) ≡ end → Both dialect false remaining → Both dialect true remaining → (in_comment : Bool)
        → Both dialect in_comment (byte ∷ remaining)
    ends true is in_code in_comment now =
        let is_end = line_feed-is byte is in
        subst (λ (b : ℕ). Both dialect now (b ∷ remaining)) (sym is_end)
        (both-skip dialect now false line_feed remaining (line_feed-gap now remaining) (ahead-line_feed now remaining) (plain-line_feed now remaining) in_code)
    ends false is in_code in_comment false = code_or_comment (begins_comment byte) refl is in_code in_comment
    ends false is in_code in_comment true =
        both-skip dialect true true byte remaining (gap_from-comment byte remaining ∙ ap (λ (t : Bool). 1 + gap_from (not t) remaining) is) (ahead-in_comment byte remaining is)
        (plain-in_comment byte remaining is) in_comment

-- ---- the whole

pairs-few : (digits : List ℕ) → 2 * length (pairs digits) ≤ length digits
pairs-few [] = omega arith
pairs-few (one ∷ []) = omega arith
pairs-few (high ∷ low ∷ rest) = omega (arith, pairs-few rest)

cons_option-few : (o : Option ℕ) (l : List ℕ) → length (cons_option o l) ≤ 1 + length l
cons_option-few None l = omega arith
cons_option-few (Some x) l = omega arith

-- a digit is a byte
ahead-few : (in_comment : Bool) (remaining : List ℕ) → length (ahead in_comment remaining) ≤ length remaining
ahead-few false [] = omega arith
ahead-few true [] = omega arith
ahead-few in_comment (byte ∷ remaining) = by (byte == line_feed) refl (ahead-few false remaining) (ahead-few true remaining) in_comment
  where
    code_or_comment : (comment : Bool) → begins_comment byte ≡ comment → (byte == line_feed) ≡ false → length (ahead false remaining) ≤ length remaining
        → length (ahead true remaining) ≤ length remaining → length (ahead false (byte ∷ remaining)) ≤ length (byte ∷ remaining)
    code_or_comment true is other in_code in_comment = omega (arith, in_comment, ap length (ahead-comment byte remaining other is))
    code_or_comment false is other in_code in_comment =
        omega (arith, in_code, ap length (ahead-code byte remaining other is), cons_option-few (hex_digit_value byte) (ahead false remaining))

    by : (end : Bool) → (byte == line_feed) ≡ end → length (ahead false remaining) ≤ length remaining → length (ahead true remaining) ≤ length remaining → (in_comment : Bool)
        → length (ahead in_comment (byte ∷ remaining)) ≤ length (byte ∷ remaining)
    by true is in_code in_comment now =
        let is_end = line_feed-is byte is in
        omega (arith, in_code, ap (λ (b : ℕ). length (ahead now (b ∷ remaining))) is_end, ap length (ahead-line_feed now remaining))
    by false is in_code in_comment false = code_or_comment (begins_comment byte) refl is in_code in_comment
    by false is in_code in_comment true = omega (arith, in_comment, ap length (ahead-in_comment byte remaining is))

length-bytes : (bytes : List ℕ) → length (map item.Byte bytes) ≡ length bytes
length-bytes [] = refl
length-bytes (byte ∷ bytes) = ap suc (length-bytes bytes)

whole-source : (dialect : Dialect) (source : List ℕ) → IsTrue (is_plain source) → HasEvenDigits source
    → formed None (reading dialect 0 0 source) ≡ bytes_alone (hex0_of source)
unfolding hex0_of
whole-source dialect source plain even =
    ap (formed None) (appended-gap dialect 0 source) ∙ even-by dialect source ((both dialect false source).0 plain even) (0 + gap_length source)

value-few : (source : List ℕ) → length source ≤ most_source → length (hex0_of source) ≤ most_items
unfolding hex0_of
value-few source short = omega (arith, pairs-few (digits_of source), ahead-few false source)

pub plain-items : (dialect : Dialect) (source : List ℕ) → length source ≤ most_source → IsTrue (is_plain source) → HasEvenDigits source
    → items_of dialect source ≡ Ok (map item.Byte (hex0_of source))
plain-items dialect source short plain even =
    items_of-judged dialect source short
    ∙ judged-end (formed None (reading dialect 0 0 source)) (map item.Byte (hex0_of source)) Whole
    (whole-source dialect source plain even ∙ sym (ap (λ (l : List Item). record { items = l; end = Whole }) (append-nil (map item.Byte (hex0_of source)))))
    (omega (arith, length-bytes (hex0_of source), value-few source short))
