-- Reading a text byte by byte.
use Rattle.std.proofs.Common.{◌≡◌, ◌≢◌, ℕ, zero, suc, ◌<◌, ◌≤◌, ◌==◌, Bool, true, false, cond, Option, None, Some, Result, Ok, Err, List, [], ◌∷◌, ◌++◌, length, refl, sym, ap, ◌∙◌, arith, append_assoc}
use Rattle.std.specs.Prelude.{not, nat_le, ◌&&◌, ◌||◌, IsTrue}
use Rattle.std.specs.List.{list_any}
use Rattle.std.proofs.Common.{◌⊎◌}
use Rattle.std.proofs.lemmas.Bool.{ne_eqb, cases_eq}
use Rattle.std.proofs.lemmas.Bool.Decides.{nat_tests}
use Rattle.mem_files.specs.Names.{stripped, is_stripped_name, begins_with_dot_slash}
use Rattle.std.specs.FinMap.{get}
use Rattle.ddc_base.specs.Results.{◌>>=◌}
use Rattle.paged_mem.specs.Memory.{Memory, reads, bytes_at, number_of, prepended}
use Rattle.std.specs.Option.{option_map}
use Rattle.mem_files.specs.Linux.{enoent}
use Rattle.linux_calls.specs.Linux.{efault, enametoolong}
use Rattle.linux_calls.specs.Paths.{text_at, text_or_fault, text_from, not_empty}

-- bytes that were read, before the text that follows them
abbrev pub after : List ℕ → Result (List ℕ) ℕ → Result (List ℕ) ℕ
after read rest = rest >>= λ text. Ok (read ++ text)

pub after-nil : (rest : Result (List ℕ) ℕ) → rest ≡ after [] rest
after-nil (Ok text) = refl
after-nil (Err errno) = refl

pub after-push : (read : List ℕ) (byte : ℕ) (rest : Result (List ℕ) ℕ) → byte ≢ 0 → after read (text_from byte rest) ≡ after (read ++ byte ∷ []) rest
after-push read byte rest ne = ap (λ b. after read (cond b (Ok []) (rest >>= λ text. Ok (byte ∷ text)))) (ne_eqb byte 0 ne) ∙ joined rest
  where
    joined : (rest : Result (List ℕ) ℕ) → after read (rest >>= λ text. Ok (byte ∷ text)) ≡ after (read ++ byte ∷ []) rest
    joined (Err errno) = refl
    joined (Ok text) = ap Ok (sym (append_assoc read (byte ∷ []) text))

pub text_at-step : (m : Memory) (at most remaining byte : ℕ) → most ≡ suc remaining → get m at ≡ Some byte → text_at m at most ≡ text_from byte (text_at m (suc at) remaining)
unfolding text_at
text_at-step m at most remaining byte e found = ap (text_at m at) e ∙ ap (λ o. text_or_fault o (text_at m (suc at) remaining)) found

pub text_at-unmapped : (m : Memory) (at most remaining : ℕ) → most ≡ suc remaining → get m at ≡ None → text_at m at most ≡ Err efault
unfolding text_at
text_at-unmapped m at most remaining e gone = ap (text_at m at) e ∙ ap (λ o. text_or_fault o (text_at m (suc at) remaining)) gone

pub text_at-none : (m : Memory) (at : ℕ) → text_at m at 0 ≡ Err enametoolong
unfolding text_at
text_at-none m at = refl

-- a load of one byte
pub reads-one : (m : Memory) (at : ℕ) → reads m at 1 ≡ get m at
unfolding bytes_at number_of
reads-one m at = one (get m at)
  where
    one : (o : Option ℕ) → option_map number_of (prepended o (Some [])) ≡ o
    one None = refl
    one (Some byte) = ap Some (omega arith)

-- a text that was read has no zero byte and is short
abbrev pub has_zero : List ℕ → Bool
has_zero bytes = list_any (λ byte. byte == 0) bytes

or_right : (x y : Bool) → (x || y) ≡ false → y ≡ false
or_right true y e = cc
or_right false y e = e

text_from-is : (byte most : ℕ) (rest : Result (List ℕ) ℕ) (text : List ℕ) → ((t : List ℕ) → rest ≡ Ok t → (length t < most) × (has_zero t ≡ false)) → text_from byte rest ≡ Ok text → (length text < suc most) × (has_zero text ≡ false)
text_from-is byte most rest text more e = by_test (byte == 0) refl (cases_eq byte 0) e
  where
    longer : (r : Result (List ℕ) ℕ) → r ≡ rest → byte == 0 ≡ false → (r >>= λ t. Ok (byte ∷ t)) ≡ Ok text → (length text < suc most) × (has_zero text ≡ false)
    longer (Err errno) was ne e = cc
    longer (Ok t) was ne e =
        let is : text ≡ byte ∷ t = cc in
        let short = more t (sym was) in
        (omega (arith, ap length is, short.0), ap has_zero is ∙ ap (λ b. b || has_zero t) ne ∙ short.1)

    by_test : (t : Bool) → byte == 0 ≡ t → (byte ≡ 0) ⊎ (byte ≢ 0) → cond t (Ok []) (rest >>= λ t. Ok (byte ∷ t)) ≡ Ok text → (length text < suc most) × (has_zero text ≡ false)
    by_test false was o e = longer rest refl was e
    by_test true was o e =
        let is : text ≡ [] = cc in
        (omega (arith, ap length is), ap has_zero is)

pub text_at-is : (m : Memory) (at most : ℕ) (text : List ℕ) → text_at m at most ≡ Ok text → (length text < most) × (has_zero text ≡ false)
unfolding text_at
text_at-is m at zero text e = cc
text_at-is m at (suc most) text e = by_byte (λ t was. text_at-is m (suc at) most t was) (get m at) e
  where
    by_byte : ((t : List ℕ) → text_at m (suc at) most ≡ Ok t → (length t < most) × (has_zero t ≡ false)) → (o : Option ℕ) → text_or_fault o (text_at m (suc at) most) ≡ Ok text → (length text < suc most) × (has_zero text ≡ false)
    by_byte more None e = cc
    by_byte more (Some byte) e = text_from-is byte most (text_at m (suc at) most) text more e

-- what stripping keeps of such a text
pub stripped-is : (text : List ℕ) → has_zero text ≡ false → (length (stripped text) ≤ length text) × (has_zero (stripped text) ≡ false) × (begins_with_dot_slash (stripped text) ≡ false)
stripped-is [] e = (omega arith, e, refl)
stripped-is (a ∷ []) e = (omega arith, e, refl)
stripped-is (a ∷ (b ∷ rest)) e = by_test (a == 46 && b == 47) refl (stripped-is rest)
  where
    by_test : (t : Bool) → (a == 46 && b == 47) ≡ t → (has_zero rest ≡ false → (length (stripped rest) ≤ length rest) × (has_zero (stripped rest) ≡ false) × (begins_with_dot_slash (stripped rest) ≡ false)) → (length (cond t (stripped rest) (a ∷ (b ∷ rest))) ≤ length (a ∷ (b ∷ rest))) × (has_zero (cond t (stripped rest) (a ∷ (b ∷ rest))) ≡ false) × (begins_with_dot_slash (cond t (stripped rest) (a ∷ (b ∷ rest))) ≡ false)
    by_test false was more = (omega arith, e, was)
    by_test true was more =
        let kept = more (or_right (b == 0) (has_zero rest) (or_right (a == 0) (b == 0 || has_zero rest) e)) in
        (omega (arith, kept.0), kept.1, kept.2)

pub name_of_text : (text : List ℕ) → length text < 256 → has_zero text ≡ false → length (stripped text) ≢ 0 → IsTrue (is_stripped_name (stripped text))
name_of_text text short clean some =
    let kept = stripped-is text clean in
    let low : nat_le 1 (length (stripped text)) ≡ true = grind (arith, nat_tests) in
    let high : nat_le (length (stripped text)) 255 ≡ true = by_length kept.0 in
    all (nat_le 1 (length (stripped text))) (nat_le (length (stripped text)) 255) (has_zero (stripped text)) (begins_with_dot_slash (stripped text)) low high kept.1 kept.2
  where
    by_length : length (stripped text) ≤ length text → nat_le (length (stripped text)) 255 ≡ true
    by_length le = grind (arith, nat_tests)

    all : (a b c d : Bool) → a ≡ true → b ≡ true → c ≡ false → d ≡ false → ((a && b && not c) && not d) ≡ true
    all true true false false e f g h = refl
    all false b c d e f g h = cc
    all true false c d e f g h = cc
    all true true true d e f g h = cc
    all true true false true e f g h = cc

pub not_empty-some : (name : List ℕ) → length name ≢ 0 → not_empty name ≡ Ok name
not_empty-some [] ne = absurd (ne refl)
not_empty-some (byte ∷ bytes) ne = refl

pub not_empty-none : (name : List ℕ) → length name ≡ 0 → not_empty name ≡ Err enoent
not_empty-none [] e = refl
not_empty-none (byte ∷ bytes) e = absurd (omega arith)
