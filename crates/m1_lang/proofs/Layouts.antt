-- Words that are laid out with blanks between them are the words of the source.
use Rattle.std.proofs.Common.{◌≡◌, ℕ, suc, ◌+◌, ◌-◌, ◌<◌, ◌≤◌, ◌==◌, nat_lt, Bool, true, false, cond, not, ◌||◌, List, [], ◌∷◌, ◌++◌, append_assoc, length, map, refl, sym, ap, subst, ◌∙◌, arith, Some, None, length-append}
use Rattle.std.proofs.lemmas.Bool.Decides.{nat_tests}
use Rattle.std.specs.List.{position_or_len}
use Rattle.std.proofs.Math.Seq.{drop-append_seam, take-append_seam}
use Rattle.hex_langs.specs.Hex0.{begins_comment}
use Rattle.hex_langs.specs.Items.Tokens.{gap_length, is_blank, opens_gap}
use Rattle.m1_lang.specs.Words.Words.{until_closed, Found, is_quote, open_quote, Word, word_list, word_more, Words, words_from, words_of}
use Rattle.m1_lang.proofs.WordsLemmas.Splits.{passed, split-inside}
use Rattle.m1_lang.specs.Laws.{AreBlanks, IsLayout, IsOneWord, laid_out, Layout, texts_in}

-- ---- blanks

no-comment : (byte : ℕ) → is_blank byte ≡ true → begins_comment byte ≡ false
no-comment byte is = grind (arith, nat_tests)

gap-blank : (byte : ℕ) (remaining : List ℕ) → is_blank byte ≡ true → gap_length (byte ∷ remaining) ≡ suc (gap_length remaining)
unfolding gap_length
gap-blank byte remaining is = let code = no-comment byte is in rw code (rw is refl)

one-blank : (at byte : ℕ) (remaining : List ℕ) → is_blank byte ≡ true → words_from at 0 (byte ∷ remaining) ≡ words_from (at + 1) 0 remaining
unfolding words_from
one-blank at byte remaining is =
    let opens : opens_gap byte ≡ true = ap (λ (b : Bool). b || begins_comment byte) is in
    let size : gap_length (byte ∷ remaining) - 1 ≡ gap_length remaining = omega (arith, gap-blank byte remaining is) in
    rw opens (ap (λ (n : ℕ). words_from (at + 1) n remaining) size ∙ passed (at + 1) remaining)

pub past-blanks : (at : ℕ) (blanks remaining : List ℕ) → AreBlanks blanks → words_from at 0 (blanks ++ remaining) ≡ words_from (at + length blanks) 0 remaining
past-blanks at [] remaining are = ap (λ (n : ℕ). words_from n 0 remaining) (omega arith)
past-blanks at (byte ∷ blanks) remaining are =
    let offset : at + 1 + length blanks ≡ at + length (byte ∷ blanks) = omega arith in
    one-blank at byte (blanks ++ remaining) are.0 ∙ past-blanks (at + 1) blanks remaining are.1 ∙ ap (λ (n : ℕ). words_from n 0 remaining) offset

-- ---- one word

-- a byte that is found is found there too where more follows
found-more : (p : ℕ → Bool) (xs ys : List ℕ) → position_or_len p xs < length xs → position_or_len p (xs ++ ys) ≡ position_or_len p xs
found-more p [] ys found = absurd (omega (arith, found))
found-more p (x ∷ xs) ys found = by (p x) (found-more p xs ys) found
  where
    by : (here : Bool) → (position_or_len p xs < length xs → position_or_len p (xs ++ ys) ≡ position_or_len p xs)
        → cond (not here) (1 + position_or_len p xs) 0 < length (x ∷ xs)
        → cond (not here) (1 + position_or_len p (xs ++ ys)) 0 ≡ cond (not here) (1 + position_or_len p xs) 0
    by true later within = refl
    by false later within = ap (λ (n : ℕ). 1 + n) (later (omega (arith, within)))

-- a byte that isn't there ends where the next one begins
none-then : (p : ℕ → Bool) (xs ys : List ℕ) (y : ℕ) → position_or_len p xs ≡ length xs → p y ≡ true → position_or_len p (xs ++ y ∷ ys) ≡ length xs
none-then p [] ys y none is = rw is refl
none-then p (x ∷ xs) ys y none is = by (p x) (none-then p xs ys y) none
  where
    by : (here : Bool) → (position_or_len p xs ≡ length xs → p y ≡ true → position_or_len p (xs ++ y ∷ ys) ≡ length xs)
        → cond (not here) (1 + position_or_len p xs) 0 ≡ length (x ∷ xs) → cond (not here) (1 + position_or_len p (xs ++ y ∷ ys)) 0 ≡ length (x ∷ xs)
    by true later same = same
    by false later same = omega (arith, later (omega (arith, same)) is)

closed-some : (size more : ℕ) (remaining : List ℕ) → until_closed size remaining ≡ Some more → (size < length remaining) × (more ≡ size + 1)
closed-some size more remaining is = by (nat_lt size (length remaining)) refl is
  where
    by : (within : Bool) → nat_lt size (length remaining) ≡ within → cond within (Some (size + 1)) None ≡ Some more → (size < length remaining) × (more ≡ size + 1)
    by true tested same = (grind (arith, nat_tests), cc)
    by false tested same = absurd (cc)

closed-at : (size : ℕ) (remaining : List ℕ) → size < length remaining → until_closed size remaining ≡ Some (size + 1)
closed-at size remaining within = let test : nat_lt size (length remaining) ≡ true = grind (arith, nat_tests) in ap (λ (b : Bool). cond b (Some (size + 1)) None) test

-- a word ends before the blank after it
more-same : (byte : ℕ) (more remaining : List ℕ) (blank : ℕ) → is_blank blank ≡ true → word_more byte more ≡ Some (length more)
    → word_more byte (more ++ blank ∷ remaining) ≡ Some (length more)
unfolding word_more
more-same byte more remaining blank is one = by (is_quote byte) one
  where
    quoted : until_closed (position_or_len (λ b. b == byte) more) more ≡ Some (length more)
        → until_closed (position_or_len (λ b. b == byte) (more ++ blank ∷ remaining)) (more ++ blank ∷ remaining) ≡ Some (length more)
    quoted same =
        let found = closed-some (position_or_len (λ b. b == byte) more) (length more) more same in
        let offset = found-more (λ b. b == byte) more (blank ∷ remaining) found.0 in
        ap (λ (n : ℕ). until_closed n (more ++ blank ∷ remaining)) offset
        ∙ closed-at (position_or_len (λ b. b == byte) more) (more ++ blank ∷ remaining) (omega (arith, found.0, length-more))
        ∙ ap Some (sym found.1)
      where
        length-more : length more ≤ length (more ++ blank ∷ remaining)
        length-more = omega (arith, length-append more (blank ∷ remaining))

    plain : Some (position_or_len is_blank more) ≡ Some (length more) → Some (position_or_len is_blank (more ++ blank ∷ remaining)) ≡ Some (length more)
    plain same = let none : position_or_len is_blank more ≡ length more = cc in ap Some (none-then is_blank more remaining blank none is)

    by : (quote : Bool) → cond quote (until_closed (position_or_len (λ b. b == byte) more) more) (Some (position_or_len is_blank more)) ≡ Some (length more)
        → cond quote (until_closed (position_or_len (λ b. b == byte) (more ++ blank ∷ remaining)) (more ++ blank ∷ remaining)) (Some (position_or_len is_blank (more ++ blank ∷ remaining)))
        ≡ Some (length more)
    by true same = quoted same
    by false same = plain same

one-word : (at byte blank : ℕ) (rest remaining : List ℕ) → IsOneWord (byte ∷ rest) → is_blank blank ≡ true
    → words_from at 0 (byte ∷ (rest ++ blank ∷ remaining)) ≡ Found (record { at = at; text = byte ∷ rest }) (words_from (at + 1 + length rest) 0 (blank ∷ remaining))
unfolding words_from
one-word at byte blank rest remaining one is =
    rw one.0 (rw (more-same byte rest remaining blank is one.1) (
    ap (λ (text : List ℕ). Found (record { at = at; text = byte ∷ text }) (words_from (at + 1) (length rest) (rest ++ blank ∷ remaining))) (take-append_seam rest (blank ∷ remaining))
    ∙ ap (Found (record { at = at; text = byte ∷ rest }))
    (split-inside (at + 1) (length rest) (rest ++ blank ∷ remaining) ∙ ap (words_from (at + 1 + length rest) 0) (drop-append_seam rest (blank ∷ remaining)))))

-- ---- many words

abbrev texts_of : Words → List (List ℕ)
texts_of words = map (λ (word : Word). word.text) (word_list words)

abbrev Reads : Words → List (List ℕ) → Type 0
Reads words texts = (texts_of words ≡ texts) × (open_quote words ≡ None)

reads-by : (one other : Words) (texts : List (List ℕ)) → one ≡ other → Reads other texts → Reads one texts
reads-by one other texts same reads = subst (λ (words : Words). Reads words texts) (sym same) reads

laid : (at : ℕ) (word blanks remaining : List ℕ) (texts : List (List ℕ)) → IsOneWord word → 0 < length blanks → AreBlanks blanks
    → ((next : ℕ) → Reads (words_from next 0 remaining) texts) → Reads (words_from at 0 ((word ++ blanks) ++ remaining)) (word ∷ texts)
laid at [] blanks remaining texts one some are later = absurd one
laid at (byte ∷ rest) [] remaining texts one some are later = absurd (omega (arith, some))
laid at (byte ∷ rest) (blank ∷ blanks) remaining texts one some are later =
    let offset : ℕ = at + 1 + length rest in
    let following = later (offset + length (blank ∷ blanks)) in
    reads-by (words_from at 0 (((byte ∷ rest) ++ blank ∷ blanks) ++ remaining)) (Found (record { at = at; text = byte ∷ rest }) (words_from (offset + length (blank ∷ blanks)) 0 remaining)) _
    (ap (λ (l : List ℕ). words_from at 0 (byte ∷ l)) (append_assoc rest (blank ∷ blanks) remaining)
    ∙ one-word at byte blank rest (blanks ++ remaining) one are.0
    ∙ ap (Found (record { at = at; text = byte ∷ rest })) (past-blanks offset (blank ∷ blanks) remaining are))
    (ap (λ (l : List (List ℕ)). (byte ∷ rest) ∷ l) following.0, following.1)

layout-reads : (at : ℕ) (layout : Layout) → IsLayout layout → Reads (words_from at 0 (laid_out layout)) (map (λ (laid : List ℕ × List ℕ). laid.0) layout)
unfolding words_from
layout-reads at [] is = (refl, refl)
layout-reads at (first ∷ layout) is =
    laid at first.0 first.1 (laid_out layout) (map (λ (laid : List ℕ × List ℕ). laid.0) layout) is.0.0 is.0.1 is.0.2 (λ next. layout-reads next layout is.1)

pub layout-is : (blanks : List ℕ) (layout : Layout) → AreBlanks blanks → IsLayout layout
    → (texts_in (blanks ++ laid_out layout) ≡ map (λ (laid : List ℕ × List ℕ). laid.0) layout) × (open_quote (words_of (blanks ++ laid_out layout)) ≡ None)
layout-is blanks layout are is =
    reads-by (words_from 0 0 (blanks ++ laid_out layout)) (words_from (0 + length blanks) 0 (laid_out layout)) _ (past-blanks 0 blanks (laid_out layout) are)
    (layout-reads (0 + length blanks) layout is)
