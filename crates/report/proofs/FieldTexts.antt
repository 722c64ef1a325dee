-- Each field's text is read as that field, and what is read is the field's text.
use Rattle.std.proofs.Common.{◌≡◌, ℕ, ◌*◌, ◌<◌, ◌≤◌, ◌^◌, Bool, true, false, cond, ltb, List, ◌∷◌, ◌++◌, length, codes, decimal, Option, Some, None, refl, sym, ap, subst, ◌∙◌, arith, inl, inr, ◌⊎◌}
use Rattle.std.specs.Prelude.{nat_le, nat_lt, ◌&&◌, ◌||◌}
use Rattle.std.specs.Str.{bytes_eq}
use Rattle.std.specs.Str.Parse.{digits_value}
use Rattle.std.proofs.lemmas.Bool.{and_parts}
use Rattle.std.proofs.lemmas.Bool.Decides.{Decides-ltb, nat_tests}
use Rattle.std.proofs.lemmas.Slice.Eq.{bytes_eq-Decides}
use Rattle.hex.specs.Hex.{encode_lower, lower_digits}
use Rattle.hex.proofs.HexLemmas.{length-encode_with}
use Rattle.ddc_base.specs.Decimals.{as_decimal}
use Rattle.ddc_base.specs.Names.{IsName, is_name, name_of}
use Rattle.ddc_base.specs.declared.digests.Digest.{Digest}
use Rattle.ddc_base.proofs.Decimals.{as_decimal-is}
use Rattle.ddc_base.specs.Languages.Words.{language_named, language_word}
use Rattle.ddc_base.proofs.LanguagesLemmas.Named.{named-word, word-named}
use Rattle.report.specs.declared.types.LeftLine.{LeftLine}
use Rattle.report.specs.declared.types.Mark.{Mark}
use Rattle.report.specs.declared.types.Compared.{Compared}
use Rattle.report.specs.declared.types.Compared.TheVariants.{Equal, Differs}
use Rattle.report.specs.Inside.Cuts.{◌>>=◌, cut_at}
use Rattle.report.specs.Inside.Fields.{hex_of, file_name_of, digest_of, mark_of, file_line_of, stream_line_of, lengths_of, is_difference, difference_of, compared_of}
use Rattle.report.specs.Inside.LinesRead.{binary_of}
use Rattle.report.specs.Reports.{AreBytes, IsCount, IsDigest, IsLeft, IsMark, IsDifference, IsCompared}
use Rattle.report.proofs.Cuts.{Without, Without-append, cut_at-joined, cut_at-takes, bind_some, if_some, same_some}
use Rattle.report.proofs.Hexes.{hex_of-is, hex_of-takes, digest_again, digest_takes}
use Rattle.report.proofs.Plain.{no_blank, no_feed, decimal_plain, name_plain, hex_plain, language_plain}
use Rattle.report.proofs.Encoded.{Encodes, IsWord, two_encode}

-- ---- numbers, names and languages

abbrev pub IsNumber : ℕ → Type 0
IsNumber n = n < 2 ^ 64

number_takes : (word : List ℕ) (n : ℕ) → as_decimal word ≡ Some n → IsNumber n × (word ≡ decimal n)
number_takes word n e =
    let value = digits_value 10 word in
    let p = if_some (bytes_eq word (decimal value) && ltb value (2 ^ 64)) (Some value) n e in
    let q = and_parts (bytes_eq word (decimal value)) (ltb value (2 ^ 64)) p.0 in
    let same = same_some value n p.1 in
    let below : value < 2 ^ 64 = (Decides-ltb _ _).0 q.1 in
    (subst IsNumber same below, (bytes_eq-Decides _ _).0 q.0 ∙ ap decimal same)

pub number : Encodes IsNumber decimal as_decimal
number = record {
  again = λ n small. as_decimal-is (decimal n) n (record { small = small; encoded = refl });
  takes = number_takes;
  no_feed = λ n small. no_feed (decimal n) (decimal_plain n small);
}

pub number_word : IsWord IsNumber decimal
number_word = record { no_blank = λ n small. no_blank (decimal n) (decimal_plain n small) }

abbrev pub itself : List ℕ → List ℕ
itself text = text

name_takes : (word name : List ℕ) → name_of word ≡ Some name → IsName name × (word ≡ name)
name_takes word name e =
    let p = if_some (is_name word) (Some word) name e in
    let same = same_some word name p.1 in
    (subst IsName same p.0, same)

pub name : Encodes IsName itself name_of
name = record {
  again = λ n is. rw is refl;
  takes = name_takes;
  no_feed = λ n is. no_feed n (name_plain n is);
}

pub name_word : IsWord IsName itself
name_word = record { no_blank = λ n is. no_blank n (name_plain n is) }

abbrev pub Any : {A : Type 0} → A → Type 0
Any _ = Unit {0}

pub language : Encodes Any language_word language_named
language = record {
  again = λ l is. named-word l;
  takes = λ word l e. (tt, word-named word l e);
  no_feed = λ l is. no_feed (language_word l) (language_plain l);
}

-- ---- names of files and digests

pub record IsFileName (name : List ℕ) : Type 0 where
  pub count : IsCount 1 255 (length name)
  pub bytes : AreBytes name

twice : (bytes : List ℕ) → length (encode_lower bytes) ≡ 2 * length bytes
twice bytes = length-encode_with lower_digits bytes

pub at_most : (a b : ℕ) → nat_le a b ≡ true → a ≤ b
at_most a b h = grind (arith, nat_tests)

pub tested : (a b : ℕ) → a ≤ b → nat_le a b ≡ true
tested a b h = grind (arith, nat_tests)

both_true : (a b : Bool) → a ≡ true → b ≡ true → (a && b) ≡ true
both_true a b h k = rw (h, k) refl

file_name_again : (bytes : List ℕ) → IsFileName bytes → file_name_of (encode_lower bytes) ≡ Some bytes
unfolding file_name_of
file_name_again bytes is =
    let size = twice bytes in
    let some : 1 ≤ length (encode_lower bytes) = omega (arith, size, is.count.0) in
    let few : length (encode_lower bytes) ≤ 510 = omega (arith, size, is.count.1) in
    rw (both_true _ _ (tested _ _ some) (tested _ _ few)) (hex_of-is (encode_lower bytes) bytes (record { are_bytes = is.bytes; encoded = refl }))

file_name_takes : (word bytes : List ℕ) → file_name_of word ≡ Some bytes → IsFileName bytes × (word ≡ encode_lower bytes)
unfolding file_name_of
file_name_takes word bytes e =
    let p = if_some (nat_le 1 (length word) && nat_le (length word) 510) (hex_of word) bytes e in
    let q = and_parts (nat_le 1 (length word)) (nat_le (length word) 510) p.0 in
    let is = hex_of-takes word bytes p.1 in
    let size : length word ≡ 2 * length bytes = ap length is.encoded ∙ twice bytes in
    let some = at_most 1 (length word) q.0 in
    let few = at_most (length word) 510 q.1 in
    let least : 1 ≤ length bytes = omega (arith, size, some) in
    let most : length bytes ≤ 255 = omega (arith, size, few) in
    (record { count = (least, most); bytes = is.are_bytes }, is.encoded)

pub file_name : Encodes IsFileName encode_lower file_name_of
file_name = record {
  again = file_name_again;
  takes = file_name_takes;
  no_feed = λ bytes is. no_feed (encode_lower bytes) (hex_plain bytes is.bytes);
}

pub file_name_word : IsWord IsFileName encode_lower
file_name_word = record { no_blank = λ bytes is. no_blank (encode_lower bytes) (hex_plain bytes is.bytes) }

abbrev pub digest_text : Digest → List ℕ
digest_text digest = encode_lower digest.0

pub digest : Encodes IsDigest digest_text digest_of
digest = record {
  again = digest_again;
  takes = digest_takes;
  no_feed = λ d is. no_feed (encode_lower d.0) (hex_plain d.0 is.bytes);
}

-- ---- marks

abbrev pub mark_text : Mark → List ℕ
mark_text mark = decimal mark.length ++ 32 ∷ encode_lower mark.digest.0

pub mark : Encodes IsMark mark_text mark_of
unfolding mark_of
mark = two_encode number number_word digest IsMark (λ length digest. record { length = length; digest = digest }) (λ m. m.length) (λ m. m.digest)
    (λ m. refl) (λ a b. refl) (λ a b. refl) (λ a b is_a is_b. record { length = is_a; digest = is_b }) (λ m is. (is.length, is.digest))

-- ---- a name and a mark, and the marks of streams

abbrev pub file_text : LeftLine → List ℕ
file_text file = encode_lower file.name ++ 32 ∷ mark_text file.mark

pub file_line : Encodes IsLeft file_text file_line_of
unfolding file_line_of
file_line = two_encode file_name file_name_word mark IsLeft (λ name mark. record { name = name; mark = mark }) (λ f. f.name) (λ f. f.mark)
    (λ f. refl) (λ a b. refl) (λ a b. refl) (λ a b is_a is_b. record { count = is_a.count; bytes = is_a.bytes; mark = is_b })
    (λ f is. (record { count = is.count; bytes = is.bytes }, is.mark))

-- ---- what a comparison found

abbrev AreNumbers : ℕ × ℕ → Type 0
AreNumbers two = IsNumber two.0 × IsNumber two.1

abbrev lengths_text : ℕ × ℕ → List ℕ
lengths_text two = decimal two.0 ++ 32 ∷ decimal two.1

lengths : Encodes AreNumbers lengths_text lengths_of
unfolding lengths_of
lengths = two_encode number number_word number AreNumbers (λ ours theirs. (ours, theirs)) (λ two. two.0) (λ two. two.1)
    (λ two. refl) (λ a b. refl) (λ a b. refl) (λ a b is_a is_b. (is_a, is_b)) (λ two is. is)

abbrev pub compared_text : Compared → List ℕ
compared_text (Equal n) = codes "equal" ++ 32 ∷ decimal n
compared_text (Differs offset ours theirs) = codes "differs" ++ 32 ∷ (decimal offset ++ 32 ∷ (decimal ours ++ 32 ∷ decimal theirs))

less : (a b : ℕ) → nat_lt a b ≡ true → a < b
less a b h = (Decides-ltb a b).0 h

or_cases : (a b : Bool) → (a || b) ≡ true → (a ≡ true) ⊎ (b ≡ true)
or_cases true b h = inl refl
or_cases false b h = inr h

or_true : (a b : Bool) → (a ≡ true) ⊎ (b ≡ true) → (a || b) ≡ true
or_true true b h = refl
or_true false b (inl h) = absurd cc
or_true false b (inr h) = h

difference_holds : (o a b : ℕ) → is_difference o a b ≡ true → a < 2 ^ 64 → b < 2 ^ 64 → IsDifference o a b
difference_holds o a b h small_a small_b =
    let p = and_parts (nat_le o a && nat_le o b) (nat_lt o a || nat_lt o b) h in
    let q = and_parts (nat_le o a) (nat_le o b) p.0 in
    record {
      within_ours = at_most o a q.0;
      within_theirs = at_most o b q.1;
      inside_one = elim (or_cases (nat_lt o a) (nat_lt o b) p.1) [ inl here ↦ inl (less o a here) | inr there ↦ inr (less o b there) ];
      small_ours = small_a;
      small_theirs = small_b;
    }

difference_passes : (o a b : ℕ) → IsDifference o a b → is_difference o a b ≡ true
difference_passes o a b is =
    both_true _ _ (both_true _ _ (tested o a is.within_ours) (tested o b is.within_theirs))
    (or_true (nat_lt o a) (nat_lt o b) (elim is.inside_one [ inl here ↦ inl ((Decides-ltb o a).1 here) | inr there ↦ inr ((Decides-ltb o b).1 there) ]))

difference_again : (o a b : ℕ) → IsDifference o a b → difference_of (decimal o ++ 32 ∷ (decimal a ++ 32 ∷ decimal b)) ≡ Some (Differs o a b)
unfolding difference_of
difference_again o a b is =
    let small : o < 2 ^ 64 = omega (arith, is.within_ours, is.small_ours) in
    rw (
      cut_at-joined 32 (decimal o) (decimal a ++ 32 ∷ decimal b) (number_word.no_blank o small),
      number.again o small,
      lengths.again (a, b) (is.small_ours, is.small_theirs),
      difference_passes o a b is,
    ) refl

difference_takes : (text : List ℕ) (found : Compared) → difference_of text ≡ Some found → IsCompared found × (codes "differs" ++ 32 ∷ text ≡ compared_text found)
unfolding difference_of
difference_takes text found e =
    let rest = λ (o : ℕ) (two : ℕ × ℕ). cond (is_difference o two.0 two.1) (Some (Differs o two.0 two.1)) None in
    let x = bind_some (cut_at 32 text) (λ cut. as_decimal cut.0 >>= λ o. lengths_of cut.1 >>= λ two. rest o two) found e in
    let y = bind_some (as_decimal x.0.0) (λ o. lengths_of x.0.1 >>= λ two. rest o two) found x.2 in
    let z = bind_some (lengths_of x.0.1) (λ two. rest y.0 two) found y.2 in
    let q = if_some (is_difference y.0 z.0.0 z.0.1) (Some (Differs y.0 z.0.0 z.0.1)) found z.2 in
    let o = number.takes x.0.0 y.0 y.1 in
    let two = lengths.takes x.0.1 z.0 z.1 in
    let P = λ (c : Compared). IsCompared c × (codes "differs" ++ 32 ∷ text ≡ compared_text c) in
    subst P (same_some (Differs y.0 z.0.0 z.0.1) found q.1) (
      difference_holds y.0 z.0.0 z.0.1 q.0 two.0.0 two.0.1,
      ap (λ (t : List ℕ). codes "differs" ++ 32 ∷ t) (cut_at-takes 32 text x.0.0 x.0.1 x.1 ∙ ap (λ (t : List ℕ). t ++ 32 ∷ x.0.1) o.1 ∙ ap (λ (t : List ℕ). decimal y.0 ++ 32 ∷ t) two.1),
    )

compared_again : (found : Compared) → IsCompared found → compared_of (compared_text found) ≡ Some found
unfolding compared_of
compared_again (Equal n) is = rw (cut_at-joined 32 (codes "equal") (decimal n) (no_blank (codes "equal") refl), number.again n is) refl
compared_again (Differs o a b) is = rw (cut_at-joined 32 (codes "differs") (decimal o ++ 32 ∷ (decimal a ++ 32 ∷ decimal b)) (no_blank (codes "differs") refl), difference_again o a b is) refl

equal_takes : (text : List ℕ) (found : Compared) → (as_decimal text >>= λ length. Some (Equal length)) ≡ Some found → IsCompared found × (codes "equal" ++ 32 ∷ text ≡ compared_text found)
equal_takes text found e =
    let x = bind_some (as_decimal text) (λ length. Some (Equal length)) found e in
    let n = number.takes text x.0 x.1 in
    let P = λ (c : Compared). IsCompared c × (codes "equal" ++ 32 ∷ text ≡ compared_text c) in
    subst P (same_some (Equal x.0) found x.2) (n.0, ap (λ (t : List ℕ). codes "equal" ++ 32 ∷ t) n.1)

-- what a test of a first word decides
pub by_word : {A : Type 0} {P : Type 0} (word text : List ℕ) (this other : Option A) (a : A)
    → (word ≡ text → this ≡ Some a → P) → (other ≡ Some a → P) → (cond (bytes_eq word text) this other) ≡ Some a → P
by_word {A} {P} word text this other a here there e = on (bytes_eq word text) refl
  where
    on : (b : Bool) → bytes_eq word text ≡ b → P
    on true is = here ((bytes_eq-Decides word text).0 is) (sym (rw is refl) ∙ e)
    on false is = there (sym (rw is refl) ∙ e)

-- what reads as the line of a stream is one of both
pub stream_line_takes : {Line : Type 0} (P : Line → Type 0) (first second : Mark → Line) (fields : List ℕ) (l : Line)
    → ((m : Mark) → IsMark m → fields ≡ codes "1" ++ 32 ∷ mark_text m → P (first m))
    → ((m : Mark) → IsMark m → fields ≡ codes "2" ++ 32 ∷ mark_text m → P (second m))
    → stream_line_of first second fields ≡ Some l → P l
stream_line_takes {Line} P first second fields l is_first is_second e =
    let read = λ (make : Mark → Line) (t : List ℕ). mark_of t >>= λ m. Some (make m) in
    let x = bind_some (cut_at 32 fields) (λ cut. cond (bytes_eq cut.0 (codes "1")) (read first cut.1) (cond (bytes_eq cut.0 (codes "2")) (read second cut.1) None)) l e in
    let joined = cut_at-takes 32 fields x.0.0 x.0.1 x.1 in
    let encoded = λ (word mark : List ℕ) (is : x.0.0 ≡ word) (text : x.0.1 ≡ mark).
    joined ∙ ap (λ (t : List ℕ). t ++ 32 ∷ x.0.1) is ∙ ap (λ (t : List ℕ). word ++ 32 ∷ t) text in
    by_word x.0.0 (codes "1") (read first x.0.1) _ l
    (λ is here. (
    let y = bind_some (mark_of x.0.1) (λ m. Some (first m)) l here in
    let m = mark.takes x.0.1 y.0 y.1 in
    subst P (same_some (first y.0) l y.2) (is_first y.0 m.0 (encoded (codes "1") (mark_text y.0) is m.1))))
    (by_word x.0.0 (codes "2") (read second x.0.1) None l
    (λ is here. (
    let y = bind_some (mark_of x.0.1) (λ m. Some (second m)) l here in
    let m = mark.takes x.0.1 y.0 y.1 in
    subst P (same_some (second y.0) l y.2) (is_second y.0 m.0 (encoded (codes "2") (mark_text y.0) is m.1))))
    (λ none. absurd cc)) x.2

compared_takes : (text : List ℕ) (found : Compared) → compared_of text ≡ Some found → IsCompared found × (text ≡ compared_text found)
unfolding compared_of
compared_takes text found e =
    let equal = λ (t : List ℕ). as_decimal t >>= λ length. Some (Equal length) in
    let x = bind_some (cut_at 32 text) (λ cut. cond (bytes_eq cut.0 (codes "equal")) (equal cut.1) (cond (bytes_eq cut.0 (codes "differs")) (difference_of cut.1) None)) found e in
    let joined = cut_at-takes 32 text x.0.0 x.0.1 x.1 in
    let starts = λ (word : List ℕ) (is : x.0.0 ≡ word). joined ∙ ap (λ (t : List ℕ). t ++ 32 ∷ x.0.1) is in
    by_word x.0.0 (codes "equal") (equal x.0.1) _ found
    (λ is here. (let t = equal_takes x.0.1 found here in (t.0, starts (codes "equal") is ∙ t.1)))
    (by_word x.0.0 (codes "differs") (difference_of x.0.1) None found
    (λ is here. (let t = difference_takes x.0.1 found here in (t.0, starts (codes "differs") is ∙ t.1)))
    (λ none. absurd cc)) x.2

compared_no_feed : (found : Compared) → IsCompared found → Without 10 (compared_text found)
compared_no_feed (Equal n) is = Without-append 10 (codes "equal") (32 ∷ decimal n) (no_feed (codes "equal") refl) (refl, number.no_feed n is)
compared_no_feed (Differs o a b) is =
    let small : o < 2 ^ 64 = omega (arith, is.within_ours, is.small_ours) in
    Without-append 10 (codes "differs") (32 ∷ (decimal o ++ 32 ∷ (decimal a ++ 32 ∷ decimal b))) (no_feed (codes "differs") refl)
    (refl, Without-append 10 (decimal o) (32 ∷ (decimal a ++ 32 ∷ decimal b)) (number.no_feed o small) (refl, lengths.no_feed (a, b) (is.small_ours, is.small_theirs)))

pub compared : Encodes IsCompared compared_text compared_of
compared = record { again = compared_again; takes = compared_takes; no_feed = compared_no_feed }

abbrev pub IsBinary : List ℕ × Compared → Type 0
IsBinary found = IsName found.0 × IsCompared found.1

abbrev pub binary_text : List ℕ × Compared → List ℕ
binary_text found = found.0 ++ 32 ∷ compared_text found.1

pub binary : Encodes IsBinary binary_text binary_of
unfolding binary_of
binary = two_encode name name_word compared IsBinary (λ binary result. (binary, result)) (λ found. found.0) (λ found. found.1)
    (λ found. refl) (λ a b. refl) (λ a b. refl) (λ a b is_a is_b. (is_a, is_b)) (λ found is. is)
