-- Hexadecimal words read.
use Rattle.std.proofs.Common.{◌≡◌, ℕ, zero, suc, ◌+◌, ◌*◌, ◌/◌, ◌%◌, ◌<◌, ◌==◌, true, List, [], ◌∷◌, length, get_or, slice_index, Option, Some, None, Result, Ok, Err, refl, sym, ap, subst, ◌∙◌, arith, eq-eqb}
use Rattle.std.specs.Prelude.{◌&&◌}
use Rattle.std.specs.List.{list_all}
use Rattle.std.specs.Result.{result_ok}
use Rattle.std.proofs.lemmas.Bool.{agree_below_at, and_parts, eqb-true}
use Rattle.std.proofs.lemmas.List.Elements.{All-head, All-tail}
use Rattle.hex.specs.Hex.{IsBytes, decode_of, encode_with, encode_lower, lower_digits}
use Rattle.hex.specs.declared.error.FromHexError.{FromHexError}
use Rattle.hex.proofs.HexLemmas.{length-encode_with, decode_of-encode_lower}
use Rattle.ddc_base.specs.HexTexts.{IsHexOf, is_lower_digit}
use Rattle.ddc_base.specs.Inside.HexTests.{is_lower_hex}
use Rattle.ddc_base.specs.declared.digests.Digest.{Digest}
use Rattle.ddc_base.proofs.HexTexts.{passes, decoded, encodes}
use Rattle.report.specs.Inside.Fields.{hex_of, digit_value, pairs_of, digest_of}
use Rattle.report.specs.Reports.{AreBytes, IsDigest}
use Rattle.report.proofs.Cuts.{if_some, same_some}

from_all : (bytes : List ℕ) → AreBytes bytes → IsBytes bytes
from_all [] all i = omega arith
from_all (byte ∷ rest) all zero = All-head (λ byte. byte < 256) byte rest all
from_all (byte ∷ rest) all (suc i) = from_all rest (All-tail (λ byte. byte < 256) byte rest all) i

back : (text bytes : List ℕ) → IsHexOf text bytes → decode_of text ≡ Ok bytes
back text bytes is = ap decode_of is.encoded ∙ decode_of-encode_lower bytes (from_all bytes is.are_bytes)

ok_of : (r : Result (List ℕ) FromHexError) (bytes : List ℕ) → result_ok r ≡ Some bytes → r ≡ Ok bytes
ok_of (Ok b) bytes e = ap Ok (same_some b bytes e)
ok_of (Err d) bytes e = absurd cc

-- a word that is the text of some bytes is read as these
pub hex_of-is : (text bytes : List ℕ) → IsHexOf text bytes → hex_of text ≡ Some bytes
hex_of-is text bytes is = rw (passes text bytes is, back text bytes is) refl

-- what is read is what the word is the text of
pub hex_of-takes : (text bytes : List ℕ) → hex_of text ≡ Some bytes → IsHexOf text bytes
hex_of-takes text bytes e =
    let p = if_some (is_lower_hex text) (result_ok (decode_of text)) bytes e in
    decoded text bytes p.0 (ok_of (decode_of text) bytes p.1)

none_of : {A : Type 0} (o : Option A) → ((x : A) → o ≡ Some x → ⊥) → o ≡ None
none_of (Some x) h = absurd (h x refl)
none_of None h = refl

-- the text of no bytes is not read
pub hex_of-other : (text : List ℕ) → ((bytes : List ℕ) → ¬ (IsHexOf text bytes)) → hex_of text ≡ None
hex_of-other text none = none_of (hex_of text) (λ bytes e. none bytes (hex_of-takes text bytes e))

-- ---- digests

value_of_digit : (d : ℕ) → d < 16 → digit_value (slice_index lower_digits d) ≡ d
value_of_digit d lt = eqb-true _ _ (agree_below_at (λ k. digit_value (slice_index lower_digits k) == k) (λ _. true) 16 d refl lt)

-- the pairs of some bytes' text are these bytes
pairs_again : (bytes : List ℕ) → AreBytes bytes → pairs_of (encode_lower bytes) ≡ bytes
unfolding encode_with
pairs_again [] all = refl
pairs_again (byte ∷ rest) all =
    let fits : byte < 256 = All-head (λ byte. byte < 256) byte rest all in
    let high = value_of_digit (byte / 16) (omega arith) in
    let low = value_of_digit (byte % 16) (omega arith) in
    let whole : 16 * (byte / 16) + byte % 16 ≡ byte = omega arith in
    rw (high, low, whole, pairs_again rest (All-tail (λ byte. byte < 256) byte rest all)) refl

pub digest_again : (digest : Digest) → IsDigest digest → digest_of (encode_lower digest.0) ≡ Some digest
unfolding digest_of
digest_again digest is =
    let text = encode_lower digest.0 in
    let encoded : IsHexOf text digest.0 = record { are_bytes = is.bytes; encoded = refl } in
    let digits = (and_parts (length text % 2 == 0) (list_all is_lower_digit text) (passes text digest.0 encoded)).1 in
    let size : length text ≡ 64 = omega (arith, length-encode_with lower_digits digest.0, is.count) in
    rw (eq-eqb (length text) 64 size, digits, pairs_again digest.0 is.bytes) refl

pub digest_takes : (word : List ℕ) (digest : Digest) → digest_of word ≡ Some digest → IsDigest digest × (word ≡ encode_lower digest.0)
unfolding digest_of
digest_takes word digest e =
    let p = if_some ((length word == 64) && list_all is_lower_digit word) (Some (record { 0 = pairs_of word })) digest e in
    let q = and_parts (length word == 64) (list_all is_lower_digit word) p.0 in
    let size : length word ≡ 64 = eqb-true (length word) 64 q.0 in
    let halves : length word % 2 ≡ 0 = omega (arith, size) in
    let even : (length word % 2 == 0) ≡ true = eq-eqb (length word % 2) 0 halves in
    let lower : is_lower_hex word ≡ true = rw (even, q.1) refl in
    let encoding = encodes word lower in
    let pairs : pairs_of word ≡ encoding.0 = ap pairs_of encoding.1.encoded ∙ pairs_again encoding.0 encoding.1.are_bytes in
    let twice : length word ≡ 2 * length encoding.0 = ap length encoding.1.encoded ∙ length-encode_with lower_digits encoding.0 in
    let count : length encoding.0 ≡ 32 = omega (arith, size, twice) in
    let P = λ (d : Digest). IsDigest d × (word ≡ encode_lower d.0) in
    subst P (ap (λ (bytes : List ℕ). record { 0 = bytes }) (sym pairs) ∙ same_some (record { 0 = pairs_of word }) digest p.1)
    (record { count = count; bytes = encoding.1.are_bytes }, encoding.1.encoded)

-- ---- the pairs by their index

pub pair_at : (word : List ℕ) (k : ℕ) → 2 * k + 1 < length word → get_or (pairs_of word) k 0 ≡ 16 * digit_value (get_or word (2 * k) 0) + digit_value (get_or word (2 * k + 1) 0)
pair_at [] k lt = absurd (omega arith)
pair_at (high ∷ []) k lt = absurd (omega arith)
pair_at (high ∷ low ∷ rest) zero lt = refl
pair_at (high ∷ low ∷ rest) (suc k) lt =
    let first : 2 * suc k ≡ suc (suc (2 * k)) = omega arith in
    let second : suc (suc (2 * k)) + 1 ≡ suc (suc (2 * k + 1)) = omega arith in
    rw (first, second) (pair_at rest k (omega arith))

pub length-pairs_of : (word : List ℕ) → length (pairs_of word) ≡ length word / 2
length-pairs_of [] = refl
length-pairs_of (high ∷ []) = refl
length-pairs_of (high ∷ low ∷ rest) = omega (arith, length-pairs_of rest)

pub digit_at : (word : List ℕ) (k : ℕ) → list_all is_lower_digit word ≡ true → k < length word → is_lower_digit (get_or word k 0) ≡ true
digit_at [] k all lt = absurd (omega arith)
digit_at (digit ∷ rest) zero all lt = (and_parts (is_lower_digit digit) (list_all is_lower_digit rest) all).0
digit_at (digit ∷ rest) (suc k) all lt = digit_at rest k (and_parts (is_lower_digit digit) (list_all is_lower_digit rest) all).1 (omega arith)
