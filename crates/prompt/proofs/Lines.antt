-- Lines that are read byte by byte.
use Rattle.std.proofs.Common.{◌≡◌, ◌≢◌, ◌==◌, ◌+◌, ◌<◌, ◌≤◌, ℕ, suc, Bool, true, false, cond, not, Option, None, Some, List, [], ◌∷◌, ◌++◌, length, take, drop, min, append_assoc, append-nil, refl, sym, ap, subst, ◌∙◌, inl, inr, le_refl, arith}
use Rattle.std.specs.List.{position}
use Rattle.std.specs.Io.KnownBytes.{Consumes, IsAtEnd, Keeps}
use Rattle.std.proofs.lemmas.Bool.{lt-leb, ne_eqb}
use Rattle.std.proofs.lemmas.List.Sums.{prefix_len-le-length}
use Rattle.std.proofs.lemmas.Bool.Decides.{leb_tells}
use Rattle.std.proofs.lemmas.List.{take_all, drop_all, take-append-le, length-append, nil_from_length}
use Rattle.std.proofs.Math.Nat.{min-eq_left, min-eq_right}
use Rattle.std.proofs.Math.Seq.{take-append_seam, drop-append_seam, drop-append-add}
use Rattle.prompt.specs.declared.asking.Asked.TheVariants.{Line, TooLong, End}
use Rattle.prompt.specs.Prompts.{asked_of, unread_after, line_size}
use Rattle.prompt.specs.Reading.{GivesLine, TakesNoLine}
use Rattle.prompt.specs.Inside.Read.{HasRead, kept_with, whole_line}

abbrev is_lf : ℕ → Bool
is_lf byte = byte == 10

-- the first LF of what follows bytes without one
size-after : (prefix rest : List ℕ) → line_size prefix ≡ length prefix → line_size (prefix ++ rest) ≡ length prefix + line_size rest
size-after [] rest plain = omega arith
size-after (byte ∷ prefix) rest plain =
    elim (byte == 10) as (λ b. cond (not b) (1 + line_size prefix) 0 ≡ suc (length prefix) → cond (not b) (1 + line_size (prefix ++ rest)) 0 ≡ suc (length prefix) + line_size rest) [
      | true ↦ λ h. absurd (omega (arith, h))
      | false ↦ λ h. let later = size-after prefix rest (omega (arith, h)) in omega (arith, later)
    ] plain

-- what is asked of bytes whose first line has this size
asked-at : (unread prefix : List ℕ) (line : List ℕ) → line_size unread ≡ length prefix → take (length prefix) unread ≡ prefix → length unread ≢ 0 → line ≡ take 256 prefix
    → whole_line line (length prefix) ≡ asked_of unread
asked-at unread prefix line size is some kept =
    rw (ne_eqb (length unread) 0 some) (rw size (
    elim (leb_tells (length prefix) 256) [
      | inl fits ↦ rw (fits.0) (ap Line (kept ∙ take_all 256 prefix fits.1 ∙ sym is))
      | inr long ↦ rw (long.0) refl
    ]))

-- what is taken in turn
taken-twice : (old now new : Option (List ℕ)) (first second : List ℕ) → Consumes old now first → Consumes now new second → Consumes old new (first ++ second)
taken-twice None now new first second a b = tt
taken-twice (Some unread) None new first second a b = absurd a
taken-twice (Some unread) (Some rest) None first second a b = absurd b
taken-twice (Some unread) (Some rest) (Some last) first second a b = a ∙ ap (λ l. first ++ l) b ∙ sym (append_assoc first second last)

-- one more byte was taken
more : (old now new : Option (List ℕ)) (line next : List ℕ) (count : ℕ) (byte : ℕ) (h : HasRead old now line count) → Consumes now new (byte ∷ []) → (byte == 10) ≡ false
    → next ≡ take 256 (h.prefix ++ byte ∷ []) → HasRead old new next (count + 1)
more old now new line next count byte h c plain is = record {
  prefix = h.prefix ++ byte ∷ [];
  taken = taken-twice old now new h.prefix (byte ∷ []) h.taken c;
  size = length-append h.prefix (byte ∷ []) ∙ ap (λ n. n + 1) h.size;
  plain =
      size-after h.prefix (byte ∷ []) h.plain
      ∙ ap (λ (n : ℕ). length h.prefix + n) (rw plain refl)
      ∙ sym (length-append h.prefix (byte ∷ []));
  kept = is;
}

-- and kept, or passed over
pushed : (old now new : Option (List ℕ)) (line next : List ℕ) (count : ℕ) (byte : ℕ) → HasRead old now line count → Consumes now new (byte ∷ []) → (byte == 10) ≡ false
    → count < 256 → next ≡ line ++ byte ∷ [] → HasRead old new next (count + 1)
pushed old now new line next count byte h c plain few is =
    let size : length h.prefix < 256 = subst (λ n. n < 256) (sym h.size) few in
    let grown : length (h.prefix ++ byte ∷ []) ≤ 256 = (let sum = length-append h.prefix (byte ∷ []) in omega (arith, sum, size)) in
    more old now new line next count byte h c plain
    (is ∙ ap (λ l. l ++ byte ∷ []) (h.kept ∙ take_all 256 h.prefix (omega (arith, size))) ∙ sym (take_all 256 (h.prefix ++ byte ∷ []) grown))

passed : (old now new : Option (List ℕ)) (line : List ℕ) (count : ℕ) (byte : ℕ) → HasRead old now line count → Consumes now new (byte ∷ []) → (byte == 10) ≡ false
    → 256 ≤ count → HasRead old new line (count + 1)
passed old now new line count byte h c plain many =
    let size : 256 ≤ length h.prefix = subst (λ n. 256 ≤ n) (sym h.size) many in
    more old now new line line count byte h c plain (h.kept ∙ sym (take-append-le 256 h.prefix (byte ∷ []) size))

pub read-more : (old now new : Option (List ℕ)) (line next : List ℕ) (count : ℕ) (byte : ℕ) → HasRead old now line count → Consumes now new (byte ∷ []) → byte ≢ 10 → next ≡ kept_with line byte count
    → HasRead old new next (count + 1)
read-more old now new line next count byte h c plain is =
    elim (leb_tells (suc count) 256) [
      | inl few ↦ pushed old now new line next count byte h c (ne_eqb byte 10 plain) few.1 (is ∙ ap (λ (b : Bool). cond b (line ++ byte ∷ []) line) few.0)
      | inr many ↦
          subst (λ l. HasRead old new l (count + 1)) (sym (is ∙ ap (λ (b : Bool). cond b (line ++ byte ∷ []) line) many.0))
          (passed old now new line count byte h c (ne_eqb byte 10 plain) (omega (arith, many.1)))
    ]

-- at most 256 bytes are kept
pub kept-few : (old now : Option (List ℕ)) (line : List ℕ) (count : ℕ) → HasRead old now line count → count < 256 → length line < 256
kept-few old now line count h few =
    let size : length h.prefix < 256 = subst (λ n. n < 256) (sym h.size) few in
    subst (λ l. length l < 256) (sym (h.kept ∙ take_all 256 h.prefix (omega (arith, size)))) size

-- the line ends in an LF
pub ends : (old now new : Option (List ℕ)) (line : List ℕ) (count : ℕ) → HasRead old now line count → Consumes now new (10 ∷ []) → count < 65_536 → GivesLine old new (whole_line line count)
ends None now new line count h c few = tt
ends (Some unread) None new line count h c few = absurd h.taken
ends (Some unread) (Some rest) None line count h c few = absurd c
ends (Some unread) (Some rest) (Some last) line count h c few =
    let all : unread ≡ h.prefix ++ 10 ∷ last = h.taken ∙ ap (λ l. h.prefix ++ l) c in
    let size : line_size unread ≡ length h.prefix = ap line_size all ∙ size-after h.prefix (10 ∷ last) h.plain ∙ omega arith in
    let some : length unread ≢ 0 = λ none. (let sum = ap length all ∙ length-append h.prefix (10 ∷ last) in omega (arith, none, sum)) in
    let is : take (length h.prefix) unread ≡ h.prefix = ap (take (length h.prefix)) all ∙ take-append_seam h.prefix (10 ∷ last) in
    let few : length h.prefix < 65_536 = subst (λ n. n < 65_536) (sym h.size) few in (
      ap (whole_line line) (sym h.size) ∙ asked-at unread h.prefix line size is some h.kept,
      sym (
          ap (λ n. drop (min (n + 1) 65_536) unread) size
          ∙ ap (λ n. drop n unread) (min-eq_left {n = length h.prefix + 1} {m = 65_536} (omega (arith, few)))
          ∙ ap (drop (length h.prefix + 1)) all ∙ drop-append-add h.prefix (10 ∷ last) 1),
    )

-- the input ends
pub stops : (old now new : Option (List ℕ)) (line : List ℕ) (count : ℕ) → HasRead old now line count → Consumes now new [] → IsAtEnd new → count ≢ 0 → count < 65_536 → GivesLine old new (whole_line line count)
stops None now new line count h c end some few = tt
stops (Some unread) None new line count h c end some few = absurd h.taken
stops (Some unread) (Some rest) None line count h c end some few = absurd c
stops (Some unread) (Some rest) (Some last) line count h c end some few =
    let all : unread ≡ h.prefix = h.taken ∙ ap (λ l. h.prefix ++ l) (c ∙ end) ∙ append-nil h.prefix in
    let size : line_size unread ≡ length h.prefix = ap line_size all ∙ h.plain in
    let some : length unread ≢ 0 = λ none. some (sym h.size ∙ ap length (sym all) ∙ none) in
    let is : take (length h.prefix) unread ≡ h.prefix = ap (take (length h.prefix)) all ∙ take_all (length h.prefix) h.prefix (le_refl (length h.prefix)) in
    let few : length h.prefix < 65_536 = subst (λ n. n < 65_536) (sym h.size) few in (
      ap (whole_line line) (sym h.size) ∙ asked-at unread h.prefix line size is some h.kept,
      end ∙ sym (
          ap (λ n. drop (min (n + 1) 65_536) unread) size
          ∙ ap (λ n. drop n unread) (min-eq_left {n = length h.prefix + 1} {m = 65_536} (omega (arith, few)))
          ∙ ap (drop (length h.prefix + 1)) all ∙ drop_all (length h.prefix + 1) h.prefix (omega arith)),
    )

pub nothing : (old now new : Option (List ℕ)) (line : List ℕ) (count : ℕ) → HasRead old now line count → Consumes now new [] → IsAtEnd new → count ≡ 0 → GivesLine old new End
nothing None now new line count h c end none = tt
nothing (Some unread) None new line count h c end none = absurd h.taken
nothing (Some unread) (Some rest) None line count h c end none = absurd c
nothing (Some unread) (Some rest) (Some last) line count h c end none =
    let all : unread ≡ h.prefix = h.taken ∙ ap (λ l. h.prefix ++ l) (c ∙ end) ∙ append-nil h.prefix in
    let empty : unread ≡ [] = all ∙ nil_from_length h.prefix (h.size ∙ none) in
    (sym (ap asked_of empty), end ∙ sym (ap unread_after empty))

-- the reader fails
pub fails : (old now new : Option (List ℕ)) (line : List ℕ) (count : ℕ) → HasRead old now line count → Keeps now new → count < 65_536 → TakesNoLine old new
fails old now new line count h keeps few = (h.prefix, kept_on old now new h.taken keeps, h.plain, subst (λ n. n < 65_536) (sym h.size) few)
  where
    kept_on : (old now new : Option (List ℕ)) → Consumes old now h.prefix → Keeps now new → Consumes old new h.prefix
    kept_on None now new taken keeps = tt
    kept_on (Some unread) None new taken keeps = absurd taken
    kept_on (Some unread) (Some rest) None taken keeps = absurd keeps
    kept_on (Some unread) (Some rest) (Some last) taken keeps = taken ∙ ap (λ l. h.prefix ++ l) (sym keeps)

-- the line is cut
pub cut : (old now : Option (List ℕ)) (line : List ℕ) (count : ℕ) → HasRead old now line count → count ≡ 65_536 → GivesLine old now TooLong
cut None now line count h all = tt
cut (Some unread) None line count h all = absurd h.taken
cut (Some unread) (Some rest) line count h all =
    let size : line_size unread ≡ length h.prefix + line_size rest = ap line_size h.taken ∙ size-after h.prefix rest h.plain in
    let many : length h.prefix ≡ 65_536 = h.size ∙ all in
    let some : length unread ≢ 0 = λ none. (let sum = ap length h.taken ∙ length-append h.prefix rest in omega (arith, none, sum, many)) in (
      sym (rw (ne_eqb (length unread) 0 some) (rw size (rw (lt-leb (length h.prefix + line_size rest) 256 (omega (arith, many))) refl))),
      sym (
          ap (λ n. drop (min (n + 1) 65_536) unread) size
          ∙ ap (λ n. drop n unread) (min-eq_right {n = 65_536} {m = length h.prefix + line_size rest + 1} (omega (arith, many)) ∙ sym many)
          ∙ ap (drop (length h.prefix)) h.taken ∙ drop-append_seam h.prefix rest),
    )

-- no LF is there
pub no-lf : (unread : List ℕ) → None ≡ position is_lf unread → length unread ≡ line_size unread
no-lf unread none =
    elim (leb_tells (suc (line_size unread)) (length unread)) [
      | inl there ↦ absurd (let some : None ≡ Some (line_size unread) = none ∙ ap (λ (b : Bool). cond b (Some (line_size unread)) None) there.0 in cc)
      | inr not_there ↦ (let fits = prefix_len-le-length (λ b. not (is_lf b)) unread in omega (arith, not_there.1, fits))
    ]
