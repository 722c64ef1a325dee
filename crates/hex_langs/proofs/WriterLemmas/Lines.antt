-- What a reader makes of one line.
use Rattle.std.proofs.Common.{◌≡◌, ℕ, suc, ◌+◌, ◌*◌, ◌-◌, ◌/◌, ◌%◌, ◌<◌, ◌==◌, Bool, true, false, cond, ◌||◌, List, [], ◌∷◌, ◌++◌, length, drop, append_assoc, refl, sym, ap, ◌∙◌, arith, Some, None, Ok}
use Rattle.std.proofs.lemmas.Bool.Decides.{nat_tests}
use Rattle.std.proofs.lemmas.List.{drop-drop}
use Rattle.std.proofs.Math.Seq.{drop-append_seam, get_or-append_seam, take-append_seam}
use Rattle.std.specs.List.{list_any}
use Rattle.std.specs.Prelude.{slice_index}
use Rattle.hex.specs.Hex.{encode_upper, encode_with, hex_digit_value, upper_digits}
use Rattle.hex.proofs.HexLemmas.{IsDigits-upper_digits}
use Rattle.hex_langs.specs.declared.items.item.Kind.{Kind}
use Rattle.hex_langs.specs.declared.items.item.Kind.TheVariants.{I, B, J, U}
use Rattle.hex_langs.specs.declared.items.item.Item.{Item}
use Rattle.hex_langs.specs.declared.items.item.Item.TheVariants as item
use Rattle.hex_langs.specs.declared.items.token.Dialect.{Dialect}
use Rattle.hex_langs.specs.declared.items.token.Dialect.TheVariants.{Hex2}
use Rattle.hex_langs.specs.declared.items.token.TokenFault.{TokenFault}
use Rattle.hex_langs.specs.declared.items.token.Token.{Token}
use Rattle.hex_langs.specs.declared.items.token.Token.TheVariants.{Byte, Reference, Alone}
use Rattle.hex_langs.specs.Items.Tokens.{ends_name, gap_from, gap_length, is_blank, name_length, named_by, opens_gap, pair_at, token_at}
use Rattle.hex_langs.specs.Hex0.{begins_comment}
use Rattle.hex_langs.specs.Items.Reading.{formed, Reading, reading, Then, with_prefix}
use Rattle.hex_langs.proofs.ItemsLemmas.Readings.{gap_length-some, reading-token}
use Rattle.std.specs.Prelude.{◌^◌}
use Rattle.std.specs.Int.{w32, from_le_bytes, to_le_bytes}
use Rattle.std.proofs.lemmas.Nat.{from_le_bytes-to_le_bytes_4}
use Rattle.hex_langs.specs.Writer.Writable.{IsHexName, IsWritable}
use Rattle.hex_langs.specs.Writer.Writing.{item_line, kind_sign}

-- ---- blanks between tokens

no-gap : (comment blank : Bool) (a b : ℕ) → blank || comment ≡ false → cond comment (suc a) (cond blank (suc b) 0) ≡ 0
no-gap true true a b code = absurd (cc)
no-gap true false a b code = absurd (cc)
no-gap false true a b code = absurd (cc)
no-gap false false a b code = refl

gap_length-none : (byte : ℕ) (remaining : List ℕ) → opens_gap byte ≡ false → gap_length (byte ∷ remaining) ≡ 0
unfolding gap_length
gap_length-none byte remaining code = no-gap (begins_comment byte) (is_blank byte) (gap_from true remaining) (gap_from false remaining) code

-- a gap that is passed over is one that was not
passed : (dialect : Dialect) (at : ℕ) (remaining : List ℕ) → reading dialect at (gap_length remaining) remaining ≡ reading dialect at 0 remaining
unfolding reading gap_length
passed dialect at [] = refl
passed dialect at (byte ∷ remaining) = by (opens_gap byte) refl
  where
    by : (test : Bool) → opens_gap byte ≡ test → reading dialect at (gap_length (byte ∷ remaining)) (byte ∷ remaining) ≡ reading dialect at 0 (byte ∷ remaining)
    by true opens =
        let some = gap_length-some byte remaining opens in
        let size : gap_length (byte ∷ remaining) ≡ suc some.0 = omega (arith, some.1) in
        let less : gap_length (byte ∷ remaining) - 1 ≡ some.0 = omega (arith, some.1) in
        ap (λ (n : ℕ). reading dialect at n (byte ∷ remaining)) size ∙ sym (rw opens (ap (λ (n : ℕ). reading dialect (at + 1) n remaining) less))
    by false code = ap (λ (n : ℕ). reading dialect at n (byte ∷ remaining)) (gap_length-none byte remaining code)

-- a blank takes its one byte
blank : (dialect : Dialect) (at byte : ℕ) (remaining : List ℕ) → begins_comment byte ≡ false → is_blank byte ≡ true
    → reading dialect at 0 (byte ∷ remaining) ≡ reading dialect (at + 1) 0 remaining
unfolding reading gap_length
blank dialect at byte remaining code is =
    let opens : opens_gap byte ≡ true = ap (λ (b : Bool). b || begins_comment byte) is in
    let size : gap_length (byte ∷ remaining) - 1 ≡ gap_length remaining = rw code (rw is (omega arith)) in
    rw opens (ap (λ (n : ℕ). reading dialect (at + 1) n remaining) size ∙ passed dialect (at + 1) remaining)

pub line_feed : (at : ℕ) (remaining : List ℕ) → reading Hex2 at 0 (10 ∷ remaining) ≡ reading Hex2 (at + 1) 0 remaining
line_feed at remaining = blank Hex2 at 10 remaining refl refl

pub space : (at : ℕ) (remaining : List ℕ) → reading Hex2 at 0 (32 ∷ remaining) ≡ reading Hex2 (at + 1) 0 remaining
space at remaining = blank Hex2 at 32 remaining refl refl

-- ---- bytes

digit-code : (byte value : ℕ) → hex_digit_value byte ≡ Some value → opens_gap byte ≡ false
digit-code byte value digit = grind (arith, nat_tests)

byte-token : (h l high low : ℕ) (remaining : List ℕ) → hex_digit_value h ≡ Some high → hex_digit_value l ≡ Some low
    → token_at Hex2 h (l ∷ remaining) ≡ Ok (Byte (16 * high + low), 1)
unfolding token_at pair_at
byte-token h l high low remaining first second =
    let size = gap_length-none l remaining (digit-code l low second) in
    rw first (rw size (rw second refl))

pub reads-byte : (at byte : ℕ) (remaining : List ℕ) → byte < 256
    → reading Hex2 at 0 (slice_index upper_digits (byte / 16) ∷ slice_index upper_digits (byte % 16) ∷ remaining) ≡ Then at (Byte byte) (reading Hex2 (at + 2) 0 remaining)
reads-byte at byte remaining small =
    let first = IsDigits-upper_digits (byte / 16) (omega arith) in
    let second = IsDigits-upper_digits (byte % 16) (omega arith) in
    let value : 16 * (byte / 16) + byte % 16 ≡ byte = omega arith in
    let next : at + 1 + 1 ≡ at + 2 = omega arith in
    reading-token Hex2 at (slice_index upper_digits (byte / 16)) (slice_index upper_digits (byte % 16) ∷ remaining) (Byte (16 * (byte / 16) + byte % 16)) 1
    (digit-code (slice_index upper_digits (byte / 16)) (byte / 16) first) (byte-token (slice_index upper_digits (byte / 16)) (slice_index upper_digits (byte % 16)) (byte / 16) (byte % 16) remaining first second)
    ∙ ap (λ (n : ℕ). Then at (Byte n) (reading Hex2 (at + 1 + 1) 0 remaining)) value
    ∙ ap (λ (n : ℕ). Then at (Byte byte) (reading Hex2 n 0 remaining)) next

-- ---- names

neither : (a b : Bool) → a || b ≡ false → (a ≡ false) × (b ≡ false)
neither true b none = absurd (cc)
neither false b none = (refl, none)

pub name_length-is : (name remaining : List ℕ) (byte : ℕ) → list_any ends_name name ≡ false → ends_name byte ≡ true
    → name_length Hex2 (name ++ byte ∷ remaining) ≡ length name
unfolding name_length
name_length-is [] remaining byte whole ends = rw ends refl
name_length-is (first ∷ name) remaining byte whole ends =
    let parts = neither (ends_name first) (list_any ends_name name) whole in
    let head = parts.0 in
    let more : 1 + length name ≡ length (first ∷ name) = omega arith in
    rw head (ap (λ (n : ℕ). 1 + n) (name_length-is name remaining byte parts.1 ends) ∙ more)

-- after a sign a whole name
pub named-is : (make : List ℕ → Token) (name remaining : List ℕ) (byte : ℕ) → IsHexName name → ends_name byte ≡ true
    → named_by make (name_length Hex2 (name ++ byte ∷ remaining)) (name ++ byte ∷ remaining) ≡ Ok (make name, length name)
named-is make name remaining byte is ends =
    let size = name_length-is name remaining byte is.whole ends in
    let some : length name == 0 ≡ false = grind (arith, nat_tests, is.some) in
    rw size (rw some (rw (take-append_seam name (byte ∷ remaining)) refl))

pub reads-named : (at first : ℕ) (make : List ℕ → Token) (name remaining : List ℕ) (byte : ℕ) → IsHexName name → ends_name byte ≡ true → opens_gap first ≡ false
    → token_at Hex2 first (name ++ byte ∷ remaining) ≡ named_by make (name_length Hex2 (name ++ byte ∷ remaining)) (name ++ byte ∷ remaining)
    → reading Hex2 at 0 (first ∷ (name ++ byte ∷ remaining)) ≡ Then at (make name) (reading Hex2 (at + 1 + length name) 0 (byte ∷ remaining))
reads-named at first make name remaining byte is ends code token =
    reading-token Hex2 at first (name ++ byte ∷ remaining) (make name) (length name) code (token ∙ named-is make name remaining byte is ends)
    ∙ ap (λ (l : List ℕ). Then at (make name) (reading Hex2 (at + 1 + length name) 0 l)) (drop-append_seam name (byte ∷ remaining))

label-token : (remaining : List ℕ) → token_at Hex2 58 remaining ≡ named_by (λ name. Alone (item.Label name)) (name_length Hex2 remaining) remaining
unfolding token_at
label-token remaining = refl

abs-token : (remaining : List ℕ) → token_at Hex2 38 remaining ≡ named_by (λ name. Alone (item.Abs name)) (name_length Hex2 remaining) remaining
unfolding token_at
abs-token remaining = refl

reference-token : (kind : Kind) (remaining : List ℕ) → token_at Hex2 (kind_sign kind) remaining ≡ named_by (Reference kind) (name_length Hex2 remaining) remaining
unfolding token_at
reference-token I remaining = refl
reference-token B remaining = refl
reference-token J remaining = refl
reference-token U remaining = refl

pad-token : (remaining : List ℕ) → token_at Hex2 60 remaining ≡ Ok (Alone item.Pad, 0)
unfolding token_at
pad-token remaining = refl

-- `%` and a name that no `>` follows, and one that it follows
rel-token : (name remaining : List ℕ) → IsHexName name → token_at Hex2 37 (name ++ 10 ∷ remaining) ≡ Ok (Alone (item.Rel name), length name)
unfolding token_at
rel-token name remaining is =
    let size = name_length-is name remaining 10 is.whole refl in
    let some : length name == 0 ≡ false = grind (arith, nat_tests, is.some) in
    rw size (rw (get_or-append_seam name 10 remaining 0) (rw some (rw (take-append_seam name (10 ∷ remaining)) refl)))

drop-past : (xs ys : List ℕ) (y : ℕ) → drop (length xs + 1) (xs ++ y ∷ ys) ≡ ys
drop-past xs ys y = sym (drop-drop 1 (length xs) (xs ++ y ∷ ys)) ∙ ap (λ (l : List ℕ). drop 1 l) (drop-append_seam xs (y ∷ ys))

gap-token : (name other remaining : List ℕ) → IsHexName name → IsHexName other
    → token_at Hex2 37 (name ++ 62 ∷ (other ++ 10 ∷ remaining)) ≡ Ok (Alone (item.Gap name other), length name + 1 + length other)
unfolding token_at
gap-token name other remaining is also =
    let size = name_length-is name (other ++ 10 ∷ remaining) 62 is.whole refl in
    let some : length name == 0 ≡ false = grind (arith, nat_tests, is.some) in
    let second = name_length-is other remaining 10 also.whole refl in
    let more : length other == 0 ≡ false = grind (arith, nat_tests, also.some) in
    rw size (rw (get_or-append_seam name 62 (other ++ 10 ∷ remaining) 0) (rw some
    (rw (drop-past name (other ++ 10 ∷ remaining) 62) (rw second (rw more
    (rw (take-append_seam name (62 ∷ (other ++ 10 ∷ remaining))) (rw (take-append_seam other (10 ∷ remaining)) refl)))))))

-- ---- lines

-- one line is one item, and the reading goes on after it
abbrev pub ReadsLine : Item → Type 0
ReadsLine it = (at : ℕ) (rest : List ℕ) → (next : ℕ)
    × (formed None (reading Hex2 at 0 (item_line it ++ rest)) ≡ with_prefix (it ∷ []) (formed None (reading Hex2 next 0 rest)))

sign-code : (kind : Kind) → opens_gap (kind_sign kind) ≡ false
sign-code I = refl
sign-code B = refl
sign-code J = refl
sign-code U = refl

pub line-byte : (byte : ℕ) → byte < 256 → ReadsLine (item.Byte byte)
unfolding encode_with
line-byte byte small at rest = (
  at + 2 + 1,
  ap (formed None) (reads-byte at byte (10 ∷ rest) small)
      ∙ ap (λ (r : Reading TokenFault). with_prefix (item.Byte byte ∷ []) (formed None r)) (line_feed (at + 2) rest),
)

pub line-label : (name : List ℕ) → IsHexName name → ReadsLine (item.Label name)
line-label name is at rest = (
  at + 1 + length name + 1,
  ap (λ (l : List ℕ). formed None (reading Hex2 at 0 (58 ∷ l))) (append_assoc name (10 ∷ []) rest)
      ∙ ap (formed None) (reads-named at 58 (λ n. Alone (item.Label n)) name rest 10 is refl refl (label-token (name ++ 10 ∷ rest)))
      ∙ ap (λ (r : Reading TokenFault). with_prefix (item.Label name ∷ []) (formed None r)) (line_feed (at + 1 + length name) rest),
)

pub line-abs : (name : List ℕ) → IsHexName name → ReadsLine (item.Abs name)
line-abs name is at rest = (
  at + 1 + length name + 1,
  ap (λ (l : List ℕ). formed None (reading Hex2 at 0 (38 ∷ l))) (append_assoc name (10 ∷ []) rest)
      ∙ ap (formed None) (reads-named at 38 (λ n. Alone (item.Abs n)) name rest 10 is refl refl (abs-token (name ++ 10 ∷ rest)))
      ∙ ap (λ (r : Reading TokenFault). with_prefix (item.Abs name ∷ []) (formed None r)) (line_feed (at + 1 + length name) rest),
)

pub line-pad : ReadsLine item.Pad
line-pad at rest = (
  at + 1 + 0 + 1,
  ap (formed None) (reading-token Hex2 at 60 (10 ∷ rest) (Alone item.Pad) 0 refl (pad-token (10 ∷ rest)))
      ∙ ap (λ (r : Reading TokenFault). with_prefix (item.Pad ∷ []) (formed None r)) (line_feed (at + 1 + 0) rest),
)

pub line-rel : (name : List ℕ) → IsHexName name → ReadsLine (item.Rel name)
line-rel name is at rest = (
  at + 1 + length name + 1,
  ap (λ (l : List ℕ). formed None (reading Hex2 at 0 (37 ∷ l))) (append_assoc name (10 ∷ []) rest)
      ∙ ap (formed None) (reading-token Hex2 at 37 (name ++ 10 ∷ rest) (Alone (item.Rel name)) (length name) refl (rel-token name rest is))
      ∙ ap (λ (l : List ℕ). with_prefix (item.Rel name ∷ []) (formed None (reading Hex2 (at + 1 + length name) 0 l))) (drop-append_seam name (10 ∷ rest))
      ∙ ap (λ (r : Reading TokenFault). with_prefix (item.Rel name ∷ []) (formed None r)) (line_feed (at + 1 + length name) rest),
)

gap-remaining : (name other rest : List ℕ) → (name ++ 62 ∷ (other ++ 10 ∷ [])) ++ rest ≡ name ++ 62 ∷ (other ++ 10 ∷ rest)
gap-remaining name other rest =
    append_assoc name (62 ∷ (other ++ 10 ∷ [])) rest ∙ ap (λ (l : List ℕ). name ++ 62 ∷ l) (append_assoc other (10 ∷ []) rest)

pub line-gap : (name other : List ℕ) → IsHexName name → IsHexName other → ReadsLine (item.Gap name other)
line-gap name other is also at rest =
    let past : drop (length name + 1 + length other) (name ++ 62 ∷ (other ++ 10 ∷ rest)) ≡ 10 ∷ rest =
    sym (drop-drop (length other) (length name + 1) (name ++ 62 ∷ (other ++ 10 ∷ rest)))
    ∙ ap (drop (length other)) (drop-past name (other ++ 10 ∷ rest) 62) ∙ drop-append_seam other (10 ∷ rest) in (
      at + 1 + (length name + 1 + length other) + 1,
      ap (λ (l : List ℕ). formed None (reading Hex2 at 0 (37 ∷ l))) (gap-remaining name other rest)
          ∙ ap (formed None) (reading-token Hex2 at 37 (name ++ 62 ∷ (other ++ 10 ∷ rest)) (Alone (item.Gap name other)) (length name + 1 + length other) refl (gap-token name other rest is also))
          ∙ ap (λ (l : List ℕ). with_prefix (item.Gap name other ∷ []) (formed None (reading Hex2 (at + 1 + (length name + 1 + length other)) 0 l))) past
          ∙ ap (λ (r : Reading TokenFault). with_prefix (item.Gap name other ∷ []) (formed None r)) (line_feed (at + 1 + (length name + 1 + length other)) rest),
    )

-- the two digits of a byte
abbrev pub digits : ℕ → List ℕ → List ℕ
digits byte remaining = slice_index upper_digits (byte / 16) ∷ slice_index upper_digits (byte % 16) ∷ remaining

four-bytes : (a b c d at : ℕ) (remaining : List ℕ) → a < 256 → b < 256 → c < 256 → d < 256
    → reading Hex2 at 0 (digits a (digits b (digits c (digits d remaining))))
    ≡ Then at (Byte a) (Then (at + 2) (Byte b) (Then (at + 2 + 2) (Byte c) (Then (at + 2 + 2 + 2) (Byte d) (reading Hex2 (at + 2 + 2 + 2 + 2) 0 remaining))))
four-bytes a b c d at remaining fits_a fits_b fits_c fits_d =
    reads-byte at a (digits b (digits c (digits d remaining))) fits_a
    ∙ ap (Then at (Byte a)) (reads-byte (at + 2) b (digits c (digits d remaining)) fits_b
    ∙ ap (Then (at + 2) (Byte b)) (reads-byte (at + 2 + 2) c (digits d remaining) fits_c
    ∙ ap (Then (at + 2 + 2) (Byte c)) (reads-byte (at + 2 + 2 + 2) d remaining fits_d)))

word-remaining : (name digits rest : List ℕ) → (name ++ 32 ∷ (digits ++ 10 ∷ [])) ++ rest ≡ name ++ 32 ∷ (digits ++ 10 ∷ rest)
word-remaining name digits rest =
    append_assoc name (32 ∷ (digits ++ 10 ∷ [])) rest ∙ ap (λ (l : List ℕ). name ++ 32 ∷ l) (append_assoc digits (10 ∷ []) rest)

word-bytes : (value at : ℕ) (rest : List ℕ)
    → reading Hex2 at 0 (encode_upper (to_le_bytes w32 value) ++ 10 ∷ rest)
    ≡ Then at (Byte (value % 256)) (Then (at + 2) (Byte (value / 256 % 256)) (Then (at + 2 + 2) (Byte (value / 65536 % 256))
    (Then (at + 2 + 2 + 2) (Byte (value / 16777216 % 256)) (reading Hex2 (at + 2 + 2 + 2 + 2) 0 (10 ∷ rest)))))
unfolding encode_with
word-bytes value at rest =
    four-bytes (value % 256) (value / 256 % 256) (value / 65536 % 256) (value / 16777216 % 256) at (10 ∷ rest) (omega arith) (omega arith) (omega arith) (omega arith)

pub line-word : (value : ℕ) (kind : Kind) (name : List ℕ) → value < 2 ^ 32 → IsHexName name → ReadsLine (item.Word value kind name)
line-word value kind name small is at rest =
    let E = encode_upper (to_le_bytes w32 value) in
    let offset : ℕ = at + 1 + length name + 1 in
    let back : from_le_bytes w32 (to_le_bytes w32 value) ≡ value = from_le_bytes-to_le_bytes_4 value small in (
      offset + 2 + 2 + 2 + 2 + 1,
      ap (λ (l : List ℕ). formed None (reading Hex2 at 0 (kind_sign kind ∷ l))) (word-remaining name E rest)
          ∙ ap (formed None) (reads-named at (kind_sign kind) (Reference kind) name (E ++ 10 ∷ rest) 32 is refl (sign-code kind) (reference-token kind (name ++ 32 ∷ (E ++ 10 ∷ rest))))
          ∙ ap (λ (r : Reading TokenFault). formed None (Then at (Reference kind name) r)) (space (at + 1 + length name) (E ++ 10 ∷ rest))
          ∙ ap (λ (r : Reading TokenFault). formed None (Then at (Reference kind name) r)) (word-bytes value offset rest)
          ∙ ap (λ (n : ℕ). with_prefix (item.Word n kind name ∷ []) (formed None (reading Hex2 (offset + 2 + 2 + 2 + 2) 0 (10 ∷ rest)))) back
          ∙ ap (λ (r : Reading TokenFault). with_prefix (item.Word value kind name ∷ []) (formed None r)) (line_feed (offset + 2 + 2 + 2 + 2) rest),
    )

pub line-reads : (it : Item) → IsWritable it → ReadsLine it
line-reads (item.Byte byte) fits = line-byte byte fits
line-reads (item.Label name) fits = line-label name fits
line-reads (item.Word value kind name) fits = line-word value kind name fits.0 fits.1
line-reads (item.Rel name) fits = line-rel name fits
line-reads (item.Gap name other) fits = line-gap name other fits.0 fits.1
line-reads (item.Abs name) fits = line-abs name fits
line-reads item.Pad fits = line-pad
