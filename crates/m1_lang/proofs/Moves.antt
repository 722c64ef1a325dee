-- A definition may stand elsewhere.
use Rattle.std.proofs.Common.{◌≡◌, ℕ, Bool, true, false, cond, not, ◌||◌, List, [], ◌∷◌, ◌++◌, refl, sym, ap, subst, ◌∙◌, Option, Some, None, is_some, Ok, Err}
use Rattle.std.proofs.Common.{true≢false}
use Rattle.std.specs.Prelude.{bytes_eq}
use Rattle.std.proofs.lemmas.Slice.Eq.{bytes_eq-Decides}
use Rattle.m1_lang.specs.Words.Words.{Word}
use Rattle.m1_lang.specs.declared.refusal.M1Refusal.TheVariants as refusal
use Rattle.m1_lang.specs.Definitions.{with_defined, Cut, Defined, Defines, definitions, is_value, SourcePart, Plain, plain_words, value_in}
use Rattle.m1_lang.specs.Representation.Passes.{or_value}
use Rattle.m1_lang.proofs.WithoutOffsets.{expansion_by_values, expansion_with, ok, parts_expansion}

-- ---- look-ups

-- one definition more
pub look-more : (seen : Defined) (name value text : List ℕ)
    → value_in (seen ++ (name, value) ∷ []) text ≡ or_value (value_in seen text) (cond (bytes_eq text name) (Some value) None)
look-more [] name value text = refl
look-more (first ∷ seen) name value text = by (bytes_eq text first.0) (look-more seen name value text)
  where
    by : (here : Bool) → value_in (seen ++ (name, value) ∷ []) text ≡ or_value (value_in seen text) (cond (bytes_eq text name) (Some value) None)
        → cond here (Some first.1) (value_in (seen ++ (name, value) ∷ []) text) ≡ or_value (cond here (Some first.1) (value_in seen text)) (cond (bytes_eq text name) (Some value) None)
    by true rest = refl
    by false rest = rest

-- definitions that give each word the same value
abbrev pub SameValues : Defined → Defined → Type 0
SameValues one other = (text : List ℕ) → value_in one text ≡ value_in other text

more-same : (one other : Defined) (name value : List ℕ) → SameValues one other → SameValues (one ++ (name, value) ∷ []) (other ++ (name, value) ∷ [])
more-same one other name value same text =
    look-more one name value text ∙ ap (λ (o : Option (List ℕ)). or_value o (cond (bytes_eq text name) (Some value) None)) (same text) ∙ sym (look-more other name value text)

abbrev Related : Option Defined → Option Defined → Type 0
Related (Some one) (Some other) = SameValues one other
Related None None = Unit {0}
Related _ _ = ⊥

-- ---- two definitions

equal-texts : (a b : List ℕ) → bytes_eq a b ≡ true → a ≡ b
equal-texts a b is = (bytes_eq-Decides a b).0 is

same-self : (a : List ℕ) → bytes_eq a a ≡ true
same-self a = (bytes_eq-Decides a a).1 refl

same-other : (a b : List ℕ) → bytes_eq a b ≡ bytes_eq b a
same-other a b = by (bytes_eq a b) (bytes_eq b a) refl refl
  where
    by : (one other : Bool) → bytes_eq a b ≡ one → bytes_eq b a ≡ other → one ≡ other
    by true true is also = refl
    by false false is also = refl
    by true false is also = sym (same-self a) ∙ ap (λ (t : List ℕ). bytes_eq t a) (equal-texts a b is) ∙ also
    by false true is also = sym is ∙ ap (λ (t : List ℕ). bytes_eq t b) (sym (equal-texts b a also)) ∙ same-self b

-- a name is defined, or defined by one definition more
seen-more : (seen : Defined) (name value text : List ℕ)
    → is_some (value_in (seen ++ (name, value) ∷ []) text) ≡ is_some (value_in seen text) || bytes_eq text name
seen-more seen name value text = ap is_some (look-more seen name value text) ∙ by (value_in seen text) (bytes_eq text name)
  where
    by : (o : Option (List ℕ)) (same : Bool) → is_some (or_value o (cond same (Some value) None)) ≡ is_some o || same
    by (Some other) same = refl
    by None true = refl
    by None false = refl

-- two definitions of two names give the same values in both orders
order-same : (seen : Defined) (one value other also : List ℕ) → bytes_eq other one ≡ false
    → SameValues ((seen ++ (one, value) ∷ []) ++ (other, also) ∷ []) ((seen ++ (other, also) ∷ []) ++ (one, value) ∷ [])
order-same seen one value other also apart text =
    look-more (seen ++ (one, value) ∷ []) other also text
    ∙ ap (λ (o : Option (List ℕ)). or_value o (cond (bytes_eq text other) (Some also) None)) (look-more seen one value text)
    ∙ by (value_in seen text) (bytes_eq text one) (bytes_eq text other) refl refl
    ∙ sym (ap (λ (o : Option (List ℕ)). or_value o (cond (bytes_eq text one) (Some value) None)) (look-more seen other also text))
    ∙ sym (look-more (seen ++ (other, also) ∷ []) one value text)
  where
    by : (o : Option (List ℕ)) (first second : Bool) → bytes_eq text one ≡ first → bytes_eq text other ≡ second
        → or_value (or_value o (cond first (Some value) None)) (cond second (Some also) None) ≡ or_value (or_value o (cond second (Some also) None)) (cond first (Some value) None)
    by (Some found) first second is_one is_other = refl
    by None false second is_one is_other = right (cond second (Some also) None)
      where
        right : (o : Option (List ℕ)) → o ≡ or_value o None
        right None = refl
        right (Some found) = refl
    by None true false is_one is_other = refl
    by None true true is_one is_other =
        absurd (true≢false (sym (same-self other) ∙ ap (bytes_eq other) (sym (equal-texts text other is_other) ∙ equal-texts text one is_one) ∙ apart))

-- ---- one definition in front

ok-with : (seen : Defined) (at : ℕ) (name value : List ℕ) (ps : List SourcePart)
    → ok (definitions seen (Defines at name value ∷ ps))
    ≡ cond (not (is_value value)) None (cond (is_some (value_in seen name)) None (ok (definitions (seen ++ (name, value) ∷ []) ps)))
ok-with seen at name value ps = by (is_value value) (is_some (value_in seen name))
  where
    by : (good again : Bool)
        → ok (with_defined (cond (not good) (Err (refusal.BadDefine at)) (cond again (Err (refusal.DoubleDefine at)) (Ok (seen ++ (name, value) ∷ [])))) (λ more. definitions more ps))
        ≡ cond (not good) None (cond again None (ok (definitions (seen ++ (name, value) ∷ []) ps)))
    by false again = refl
    by true true = refl
    by true false = refl

chosen : (bad again : Bool) (one other : Option Defined) → Related one other → Related (cond bad None (cond again None one)) (cond bad None (cond again None other))
chosen true again one other related = tt
chosen false true one other related = tt
chosen false false one other related = related

related-self : (o : Option Defined) → Related o o
related-self None = tt
related-self (Some defined) = λ text. refl

related-then : (one two three : Option Defined) → Related one two → Related two three → Related one three
related-then None None None first second = tt
related-then None None (Some c) first second = absurd second
related-then None (Some b) three first second = absurd first
related-then (Some a) None three first second = absurd first
related-then (Some a) (Some b) None first second = absurd second
related-then (Some a) (Some b) (Some c) first second = λ text. first text ∙ second text

-- after definitions that give the same values
related-more : (one other : Defined) (ps : List SourcePart) → SameValues one other → Related (ok (definitions one ps)) (ok (definitions other ps))
related-more one other [] same = same
related-more one other (Cut at ∷ ps) same = tt
related-more one other (Plain word ∷ ps) same = related-more one other ps same
related-more one other (Defines at name value ∷ ps) same =
    subst (λ (o : Option Defined). Related o (ok (definitions other (Defines at name value ∷ ps)))) (sym (ok-with one at name value ps))
    (subst (λ (o : Option Defined). Related (cond (not (is_value value)) None (cond (is_some (value_in one name)) None (ok (definitions (one ++ (name, value) ∷ []) ps)))) o)
    (sym (ok-with other at name value ps ∙ ap (λ (o : Option (List ℕ)). cond (not (is_value value)) None (cond (is_some o) None (ok (definitions (other ++ (name, value) ∷ []) ps)))) (sym (same name))))
    (chosen (not (is_value value)) (is_some (value_in one name)) _ _ (related-more (one ++ (name, value) ∷ []) (other ++ (name, value) ∷ []) ps (more-same one other name value same))))

-- after one part
following-part : (seen : Defined) (part : SourcePart) (ps qs : List SourcePart) → ((more : Defined) → Related (ok (definitions more ps)) (ok (definitions more qs)))
    → Related (ok (definitions seen (part ∷ ps))) (ok (definitions seen (part ∷ qs)))
following-part seen (Cut at) ps qs later = tt
following-part seen (Plain word) ps qs later = later seen
following-part seen (Defines at name value) ps qs later =
    subst (λ (o : Option Defined). Related o (ok (definitions seen (Defines at name value ∷ qs)))) (sym (ok-with seen at name value ps))
    (subst (λ (o : Option Defined). Related (cond (not (is_value value)) None (cond (is_some (value_in seen name)) None (ok (definitions (seen ++ (name, value) ∷ []) ps)))) o)
    (sym (ok-with seen at name value qs))
    (chosen (not (is_value value)) (is_some (value_in seen name)) _ _ (later (seen ++ (name, value) ∷ []))))

-- ---- two parts change places

-- one definition and then another
ok-two : (seen : Defined) (at offset : ℕ) (one value other also : List ℕ) (ps : List SourcePart)
    → ok (definitions seen (Defines at one value ∷ Defines offset other also ∷ ps))
    ≡ cond (not (is_value value)) None (cond (is_some (value_in seen one)) None
    (cond (not (is_value also)) None (cond (is_some (value_in seen other) || bytes_eq other one) None (ok (definitions ((seen ++ (one, value) ∷ []) ++ (other, also) ∷ []) ps)))))
ok-two seen at offset one value other also ps =
    ok-with seen at one value (Defines offset other also ∷ ps)
    ∙ ap (λ (o : Option Defined). cond (not (is_value value)) None (cond (is_some (value_in seen one)) None o))
    (ok-with (seen ++ (one, value) ∷ []) offset other also ps
    ∙ ap (λ (b : Bool). cond (not (is_value also)) None (cond b None (ok (definitions ((seen ++ (one, value) ∷ []) ++ (other, also) ∷ []) ps)))) (seen-more seen one value other))

swap-chosen : (good fine here there apart : Bool) (one other : Option Defined) → (apart ≡ false → Related one other)
    → Related (cond (not good) None (cond here None (cond (not fine) None (cond (there || apart) None one))))
    (cond (not fine) None (cond there None (cond (not good) None (cond (here || apart) None other))))
swap-chosen false false here there apart one other later = tt
swap-chosen false true here true apart one other later = tt
swap-chosen false true here false apart one other later = tt
swap-chosen true false true there apart one other later = tt
swap-chosen true false false there apart one other later = tt
swap-chosen true true true true apart one other later = tt
swap-chosen true true true false apart one other later = tt
swap-chosen true true false true apart one other later = tt
swap-chosen true true false false true one other later = tt
swap-chosen true true false false false one other later = later refl

cut-chosen : (bad again : Bool) → Related (cond bad None (cond again None None)) None
cut-chosen true again = tt
cut-chosen false true = tt
cut-chosen false false = tt

swap : (seen : Defined) (one value : List ℕ) (part : SourcePart) (ps : List SourcePart)
    → Related (ok (definitions seen (Defines 0 one value ∷ part ∷ ps))) (ok (definitions seen (part ∷ Defines 0 one value ∷ ps)))
swap seen one value (Cut at) ps =
    subst (λ (o : Option Defined). Related o None) (sym (ok-with seen 0 one value (Cut at ∷ ps))) (cut-chosen (not (is_value value)) (is_some (value_in seen one)))
swap seen one value (Plain word) ps = related-self (ok (definitions seen (Defines 0 one value ∷ ps)))
swap seen one value (Defines at other also) ps =
    subst (λ (o : Option Defined). Related o (ok (definitions seen (Defines at other also ∷ Defines 0 one value ∷ ps)))) (sym (ok-two seen 0 at one value other also ps))
    (subst (λ (o : Option Defined). Related (cond (not (is_value value)) None (cond (is_some (value_in seen one)) None
    (cond (not (is_value also)) None (cond (is_some (value_in seen other) || bytes_eq other one) None (ok (definitions ((seen ++ (one, value) ∷ []) ++ (other, also) ∷ []) ps)))))) o)
    (sym (ok-two seen at 0 other also one value ps
    ∙ ap (λ (b : Bool). cond (not (is_value also)) None (cond (is_some (value_in seen other)) None
    (cond (not (is_value value)) None (cond (is_some (value_in seen one) || b) None (ok (definitions ((seen ++ (other, also) ∷ []) ++ (one, value) ∷ []) ps))))))
    (same-other one other)))
    (swap-chosen (is_value value) (is_value also) (is_some (value_in seen one)) (is_some (value_in seen other)) (bytes_eq other one) _ _
    (λ apart. related-more ((seen ++ (one, value) ∷ []) ++ (other, also) ∷ []) ((seen ++ (other, also) ∷ []) ++ (one, value) ∷ []) ps
    (order-same seen one value other also apart))))

-- ---- a definition after other parts

move : (seen : Defined) (one value : List ℕ) (between back : List SourcePart)
    → Related (ok (definitions seen (Defines 0 one value ∷ (between ++ back)))) (ok (definitions seen (between ++ Defines 0 one value ∷ back)))
move seen one value [] back = related-self (ok (definitions seen (Defines 0 one value ∷ back)))
move seen one value (part ∷ between) back =
    related-then _ (ok (definitions seen (part ∷ Defines 0 one value ∷ (between ++ back)))) _ (swap seen one value part (between ++ back))
    (following-part seen part (Defines 0 one value ∷ (between ++ back)) (between ++ Defines 0 one value ∷ back) (λ more. move more one value between back))

move-following : (seen : Defined) (one value : List ℕ) (prefix between back : List SourcePart)
    → Related (ok (definitions seen (prefix ++ Defines 0 one value ∷ (between ++ back)))) (ok (definitions seen (prefix ++ (between ++ Defines 0 one value ∷ back))))
move-following seen one value [] between back = move seen one value between back
move-following seen one value (part ∷ prefix) between back =
    following-part seen part (prefix ++ Defines 0 one value ∷ (between ++ back)) (prefix ++ (between ++ Defines 0 one value ∷ back))
    (λ more. move-following more one value prefix between back)

plain-more : (ps qs rs : List SourcePart) → plain_words qs ≡ plain_words rs → plain_words (ps ++ qs) ≡ plain_words (ps ++ rs)
plain-more [] qs rs same = same
plain-more (Defines at name value ∷ ps) qs rs same = plain-more ps qs rs same
plain-more (Cut at ∷ ps) qs rs same = plain-more ps qs rs same
plain-more (Plain word ∷ ps) qs rs same = ap (λ (words : List Word). word ∷ words) (plain-more ps qs rs same)

plain-moved : (one value : List ℕ) (between back : List SourcePart) → plain_words (between ++ back) ≡ plain_words (between ++ Defines 0 one value ∷ back)
plain-moved one value between back = plain-more between back (Defines 0 one value ∷ back) refl

related-with : (one other : Option Defined) (words : List Word) → Related one other → expansion_with one words ≡ expansion_with other words
related-with None None words related = refl
related-with None (Some b) words related = absurd related
related-with (Some a) None words related = absurd related
related-with (Some a) (Some b) words related =
    let values : value_in a ≡ value_in b = λ i text. related text i in
    ap (λ (v : List ℕ → Option (List ℕ)). expansion_by_values v words) values

pub moved : (one value : List ℕ) (prefix between back : List SourcePart)
    → parts_expansion (prefix ++ Defines 0 one value ∷ (between ++ back)) ≡ parts_expansion (prefix ++ (between ++ Defines 0 one value ∷ back))
moved one value prefix between back =
    related-with _ (ok (definitions [] (prefix ++ (between ++ Defines 0 one value ∷ back)))) (plain_words (prefix ++ Defines 0 one value ∷ (between ++ back)))
    (move-following [] one value prefix between back)
    ∙ ap (expansion_with (ok (definitions [] (prefix ++ (between ++ Defines 0 one value ∷ back)))))
    (plain-more prefix (Defines 0 one value ∷ (between ++ back)) (between ++ Defines 0 one value ∷ back) (plain-moved one value between back))
