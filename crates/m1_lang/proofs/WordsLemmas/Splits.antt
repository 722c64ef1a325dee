-- From one offset to the next word.
use Rattle.std.proofs.Common.{◌≡◌, ℕ, zero, suc, ◌+◌, ◌-◌, ◌<◌, ◌==◌, Bool, true, false, cond, not, ◌||◌, List, [], ◌∷◌, length, drop, take, get_or, refl, sym, ap, ◌∙◌, arith, Some, None}
use Rattle.std.proofs.lemmas.List.{drop-drop}
use Rattle.hex_langs.specs.Items.Tokens.{gap_from, gap_length, is_blank, opens_gap}
use Rattle.hex_langs.specs.Hex0.{begins_comment}
use Rattle.hex_langs.proofs.ItemsLemmas.Readings.{prefix_is, gap_length-some}
use Rattle.m1_lang.specs.Words.Words.{Found, Unclosed, word_more, words_from}
use Rattle.m1_lang.specs.Words.Ahead.{words_at}

pub split-inside : (at inside : ℕ) (remaining : List ℕ) → words_from at inside remaining ≡ words_from (at + inside) 0 (drop inside remaining)
unfolding words_from
split-inside at zero remaining = ap (λ (n : ℕ). words_from n 0 remaining) (omega arith)
split-inside at (suc inside) [] = refl
split-inside at (suc inside) (byte ∷ remaining) =
    let moved : at + 1 + inside ≡ at + suc inside = omega arith in
    split-inside (at + 1) inside remaining ∙ ap (λ (n : ℕ). words_from n 0 (drop inside remaining)) moved

no-gap : (comment blank : Bool) (a b : ℕ) → blank || comment ≡ false → cond comment (suc a) (cond blank (suc b) 0) ≡ 0
no-gap true true a b code = absurd (cc)
no-gap true false a b code = absurd (cc)
no-gap false true a b code = absurd (cc)
no-gap false false a b code = refl

gap_length-none : (byte : ℕ) (remaining : List ℕ) → opens_gap byte ≡ false → gap_length (byte ∷ remaining) ≡ 0
unfolding gap_length
gap_length-none byte remaining code = no-gap (begins_comment byte) (is_blank byte) (gap_from true remaining) (gap_from false remaining) code

-- blanks and comments that are passed over are as those that were not
pub passed : (at : ℕ) (remaining : List ℕ) → words_from at (gap_length remaining) remaining ≡ words_from at 0 remaining
unfolding words_from gap_length
passed at [] = refl
passed at (byte ∷ remaining) = by (opens_gap byte) refl
  where
    by : (test : Bool) → opens_gap byte ≡ test → words_from at (gap_length (byte ∷ remaining)) (byte ∷ remaining) ≡ words_from at 0 (byte ∷ remaining)
    by true opens =
        let some = gap_length-some byte remaining opens in
        let size : gap_length (byte ∷ remaining) ≡ suc some.0 = omega (arith, some.1) in
        let less : gap_length (byte ∷ remaining) - 1 ≡ some.0 = omega (arith, some.1) in
        ap (λ (n : ℕ). words_from at n (byte ∷ remaining)) size ∙ sym (rw opens (ap (λ (n : ℕ). words_from (at + 1) n remaining) less))
    by false code = ap (λ (n : ℕ). words_from at n (byte ∷ remaining)) (gap_length-none byte remaining code)

-- a gap is passed over
pub past-gap : (source : List ℕ) (at gap : ℕ) → gap ≡ gap_length (drop at source) → words_at source at ≡ words_at source (at + gap)
past-gap source at gap is =
    sym (passed at (drop at source)) ∙ ap (λ (n : ℕ). words_from at n (drop at source)) (sym is)
    ∙ split-inside at gap (drop at source) ∙ ap (words_from (at + gap) 0) (drop-drop gap at source)

-- after it stands no gap
stops : (comment : Bool) (list : List ℕ) (byte : ℕ) (remaining : List ℕ) → drop (gap_from comment list) list ≡ byte ∷ remaining → opens_gap byte ≡ false
stops comment [] byte remaining is = absurd (cc)
stops true (first ∷ list) byte remaining is = stops (not (first == 10)) list byte remaining is
stops false (first ∷ list) byte remaining is =
    by (begins_comment first) (is_blank first) refl refl (stops true list byte remaining) (stops false list byte remaining) is
  where
    by : (comment blank : Bool) → begins_comment first ≡ comment → is_blank first ≡ blank
        → (drop (gap_from true list) list ≡ byte ∷ remaining → opens_gap byte ≡ false)
        → (drop (gap_from false list) list ≡ byte ∷ remaining → opens_gap byte ≡ false)
        → drop (cond comment (suc (gap_from true list)) (cond blank (suc (gap_from false list)) 0)) (first ∷ list) ≡ byte ∷ remaining → opens_gap byte ≡ false
    by true blank code is later other here = later here
    by false true code is later other here = other here
    by false false code is later other here =
        let same : first ≡ byte = cc in
        ap opens_gap (sym same) ∙ ap (λ (b : Bool). b || begins_comment first) is ∙ code

pub no-gap-following : (source : List ℕ) (at gap : ℕ) → gap ≡ gap_length (drop at source) → at + gap < length source → opens_gap (get_or source (at + gap) 0) ≡ false
unfolding gap_length
no-gap-following source at gap is within =
    stops false (drop at source) (get_or source (at + gap) 0) (drop (at + gap + 1) source)
    (ap (λ (n : ℕ). drop n (drop at source)) (sym is) ∙ drop-drop gap at source ∙ prefix_is source (at + gap) within)

pub split-unclosed : (source : List ℕ) (at : ℕ) → at < length source → opens_gap (get_or source at 0) ≡ false
    → word_more (get_or source at 0) (drop (at + 1) source) ≡ None → words_at source at ≡ Unclosed at
unfolding words_from
split-unclosed source at within code none = rw (prefix_is source at within) (rw code (rw none refl))

pub split-word : (source text : List ℕ) (at more after : ℕ) → at < length source → opens_gap (get_or source at 0) ≡ false
    → word_more (get_or source at 0) (drop (at + 1) source) ≡ Some more → after ≡ at + 1 + more
    → text ≡ get_or source at 0 ∷ take more (drop (at + 1) source)
    → words_at source at ≡ Found (record { at = at; text = text }) (words_at source after)
unfolding words_from
split-word source text at more after within code found is text_is =
    let remaining_is : drop more (drop (at + 1) source) ≡ drop after source = drop-drop more (at + 1) source ∙ ap (λ (n : ℕ). drop n source) (sym is) in
    rw (prefix_is source at within) (rw code (rw found (
    ap (Found (record { at = at; text = get_or source at 0 ∷ take more (drop (at + 1) source) }))
    (split-inside (at + 1) more (drop (at + 1) source) ∙ ap (λ (n : ℕ). words_from n 0 (drop more (drop (at + 1) source))) (sym is) ∙ ap (words_from after 0) remaining_is)
    ∙ ap (λ (t : List ℕ). Found (record { at = at; text = t }) (words_at source after)) (sym text_is))))
