-- Stages relative to those of a base: what is read is spelled so, and what is spelled so is read.
use Rattle.std.proofs.Common.{◌≡◌, ℕ, zero, suc, ◌^◌, ◌<◌, ◌≤◌, Bool, true, false, cond, not, nat_le, bytes_eq, Option, None, List, [], ◌∷◌, ◌++◌, All, length, take, drop, refl, sym, ap, subst, ◌∙◌, arith, leb-true, le-leb, ◌==◌, ◌&&◌, eqb-true, eq-eqb}
use Rattle.std.specs.Prelude.{slice_get}
use Rattle.std.specs.Int.{w32}
use Rattle.std.specs.Cmp.Lexicographic.{same_text, nat_list_eq_equiv}
use Rattle.std.proofs.lemmas.List.{append-nil}
use Rattle.std.proofs.lemmas.List.Elements.{All-head, All-tail, All-cons, All-nil}
use Rattle.save_format.specs.ByteFields.Spelling.{InTurn, list_text, number_text}
use Rattle.save_format.proofs.ByteFieldsLemmas.Encodes.{Encodes, all_read, encodes, encodes_counted, encodes_that, encodes_u32, then}
use Rattle.report.specs.declared.types.LeftLine.{LeftLine}
use Rattle.report.specs.declared.types.Mark.{Mark}
use Rattle.save_format.specs.SaveText.{StageText}
use Rattle.save_format.specs.Encoded.{IsStageText, stage_text}
use Rattle.save_format.proofs.Texts.{encodes_stage}
use Rattle.save_format.specs.DeltaText.Stages.{AreStagesRelative, after_further, further_at, is_other_stage, kept_stages, equal_left, equal_lefts, equal_marks, equal_stages, stages_relative_at, stages_relative_text}

not_true : (b : Bool) → not b ≡ true → b ≡ false
not_true true e = absurd cc
not_true false e = refl

both_true : (a b : Bool) → (a && b) ≡ true → (a ≡ true) × (b ≡ true)
both_true true true e = (refl, refl)
both_true true false e = absurd cc
both_true false true e = absurd cc
both_true false false e = absurd cc

bytes_is : (xs ys : List ℕ) → bytes_eq xs ys ≡ true → xs ≡ ys
bytes_is xs ys e = same_text xs ys (sym e)

mark_is : (a b : Mark) → equal_marks a b ≡ true → a ≡ b
mark_is a b e =
    let p = both_true (a.length == b.length) (bytes_eq a.digest.0 b.digest.0) e in
    let n = eqb-true a.length b.length p.0 in
    let d = bytes_is a.digest.0 b.digest.0 p.1 in
    λ i. record { length = n i; digest = record { 0 = d i } }

left_is : (a b : LeftLine) → equal_left a b ≡ true → a ≡ b
left_is a b e =
    let p = both_true (bytes_eq a.name b.name) (equal_marks a.mark b.mark) e in
    let n = bytes_is a.name b.name p.0 in
    let m = mark_is a.mark b.mark p.1 in
    λ i. record { name = n i; mark = m i }

lefts_is : (firsts bs : List LeftLine) → equal_lefts firsts bs ≡ true → firsts ≡ bs
lefts_is [] [] e = refl
lefts_is [] (b ∷ bs) e = absurd cc
lefts_is (a ∷ firsts) [] e = absurd cc
lefts_is (a ∷ firsts) (b ∷ bs) e =
    let p = both_true (equal_left a b) (equal_lefts firsts bs) e in
    let first = left_is a b p.0 in
    let rest = lefts_is firsts bs p.1 in
    λ i. first i ∷ rest i

-- stages whose fields are the same are the same
same_is : (first second : StageText) → equal_stages first second ≡ true → first ≡ second
same_is first second e =
    let p = both_true (first.steps == second.steps) (equal_marks first.stream1 second.stream1 && (equal_marks first.stream2 second.stream2 && (equal_lefts first.left second.left && bytes_eq first.made second.made))) e in
    let q = both_true (equal_marks first.stream1 second.stream1) (equal_marks first.stream2 second.stream2 && (equal_lefts first.left second.left && bytes_eq first.made second.made)) p.1 in
    let r = both_true (equal_marks first.stream2 second.stream2) (equal_lefts first.left second.left && bytes_eq first.made second.made) q.1 in
    let t = both_true (equal_lefts first.left second.left) (bytes_eq first.made second.made) r.1 in
    let steps = eqb-true first.steps second.steps p.0 in
    let stream1 = mark_is first.stream1 second.stream1 q.0 in
    let stream2 = mark_is first.stream2 second.stream2 r.0 in
    let left = lefts_is first.left second.left t.0 in
    let made = bytes_is first.made second.made t.1 in
    λ i. record { steps = steps i; stream1 = stream1 i; stream2 = stream2 i; left = left i; made = made i }

bytes_self : (xs : List ℕ) → bytes_eq xs xs ≡ true
bytes_self xs = nat_list_eq_equiv.refl xs

mark_self : (a : Mark) → equal_marks a a ≡ true
mark_self a = rw (eq-eqb a.length a.length refl, bytes_self a.digest.0) refl

lefts_self : (firsts : List LeftLine) → equal_lefts firsts firsts ≡ true
lefts_self [] = refl
lefts_self (a ∷ firsts) = rw (bytes_self a.name, mark_self a.mark, lefts_self firsts) refl

same_self : (stage : StageText) → equal_stages stage stage ≡ true
same_self stage = rw (eq-eqb stage.steps stage.steps refl, mark_self stage.stream1, mark_self stage.stream2, lefts_self stage.left, bytes_self stage.made) refl

-- ---- further stages

abbrev IsFurther : Option StageText → StageText → Type 0
IsFurther known stage = IsStageText stage × (is_other_stage known stage ≡ true)

encodes_further : (known : Option StageText) → Encodes (further_at known) stage_text (IsFurther known)
unfolding further_at
encodes_further known = encodes_that (is_other_stage known) (encodes_stage 0)

-- the first of them is another than the base's
abbrev FirstOther : Option StageText → List StageText → Type 0
FirstOther known [] = Unit {0}
FirstOther known (stage ∷ stages) = is_other_stage known stage ≡ true

turn_of : (known : Option StageText) (stages : List StageText) → All IsStageText stages → FirstOther known stages → InTurn IsFurther after_further known stages
turn_of known [] all other = tt
turn_of known (stage ∷ stages) all other = ((All-head IsStageText stage stages all, other), turn_of None stages (All-tail IsStageText stage stages all) (free stages))
  where
    free : (stages : List StageText) → FirstOther None stages
    free [] = tt
    free (stage ∷ stages) = refl

all_in_turn : (known : Option StageText) (stages : List StageText) → InTurn IsFurther after_further known stages → All IsStageText stages
all_in_turn known [] turn = All-nil IsStageText
all_in_turn known (stage ∷ stages) turn = All-cons IsStageText stage stages turn.0.0 (all_in_turn None stages turn.1)

first_in_turn : (known : Option StageText) (stages : List StageText) → InTurn IsFurther after_further known stages → FirstOther known stages
first_in_turn known [] turn = tt
first_in_turn known (stage ∷ stages) turn = turn.0.1

-- ---- what is kept

-- what is kept of the base stands in front of the stages
kept_header : (base stages : List StageText) → All IsStageText base → All IsStageText stages → take (kept_stages base stages) base ++ drop (kept_stages base stages) stages ≡ stages
unfolding kept_stages
kept_header [] stages b s = refl
kept_header (known ∷ more) [] b s = refl
kept_header (known ∷ more) (stage ∷ stages) b s = by (equal_stages known stage) refl (kept_header more stages (All-tail IsStageText known more b) (All-tail IsStageText stage stages s))
  where
    by : (c : Bool) → equal_stages known stage ≡ c → take (kept_stages more stages) more ++ drop (kept_stages more stages) stages ≡ stages
        → take (cond c (suc (kept_stages more stages)) 0) (known ∷ more) ++ drop (cond c (suc (kept_stages more stages)) 0) (stage ∷ stages) ≡ stage ∷ stages
    by true e rest = let is : known ≡ stage = same_is known stage e in λ i. is i ∷ rest i
    by false e rest = refl

kept_low : (base stages : List StageText) → kept_stages base stages ≤ length base
unfolding kept_stages
kept_low [] stages = omega arith
kept_low (known ∷ more) [] = omega arith
kept_low (known ∷ more) (stage ∷ stages) =
    elim (equal_stages known stage) as (λ c. cond c (suc (kept_stages more stages)) 0 ≤ suc (length more)) [
      | true ↦ omega (arith, kept_low more stages)
      | false ↦ omega arith
    ]

-- the first stage after those that are kept is another than the base's
kept_other : (base stages : List StageText) → FirstOther (slice_get base (kept_stages base stages)) (drop (kept_stages base stages) stages)
unfolding kept_stages
kept_other [] [] = tt
kept_other [] (stage ∷ stages) = refl
kept_other (known ∷ more) [] = tt
kept_other (known ∷ more) (stage ∷ stages) = by (equal_stages known stage) refl (kept_other more stages)
  where
    by : (c : Bool) → equal_stages known stage ≡ c → FirstOther (slice_get more (kept_stages more stages)) (drop (kept_stages more stages) stages)
        → FirstOther (slice_get (known ∷ more) (cond c (suc (kept_stages more stages)) 0)) (drop (cond c (suc (kept_stages more stages)) 0) (stage ∷ stages))
    by true e rest = rest
    by false e rest = ap not e

-- so many stages of the base, with one after them that is another: as many are kept, and that is what stands after them
made_kept : (base further : List StageText) (kept : ℕ) → kept ≤ length base → FirstOther (slice_get base kept) further → (kept_stages base (take kept base ++ further) ≡ kept) × (drop kept (take kept base ++ further) ≡ further)
unfolding kept_stages
made_kept [] further zero le other = (refl, refl)
made_kept [] further (suc kept) le other = absurd (omega (arith, le))
made_kept (known ∷ more) [] zero le other = (refl, refl)
made_kept (known ∷ more) (stage ∷ stages) zero le other = (rw (not_true (equal_stages known stage) other) refl, refl)
made_kept (known ∷ more) further (suc kept) le other =
    let rest = made_kept more further kept (omega (arith, le)) other in
    (rw (same_self known) (ap suc rest.0), rest.1)

all_kept : (base further : List StageText) (kept : ℕ) → All IsStageText base → All IsStageText further → All IsStageText (take kept base ++ further)
all_kept [] further zero b f = f
all_kept [] further (suc kept) b f = f
all_kept (known ∷ more) further zero b f = f
all_kept (known ∷ more) further (suc kept) b f = All-cons IsStageText known (take kept more ++ further) (All-head IsStageText known more b) (all_kept more further kept (All-tail IsStageText known more b) f)

all_after : (kept : ℕ) (stages : List StageText) → All IsStageText stages → All IsStageText (drop kept stages)
all_after zero stages s = s
all_after (suc kept) [] s = s
all_after (suc kept) (stage ∷ stages) s = all_after kept stages (All-tail IsStageText stage stages s)

-- ---- the law

pub encodes_stages : (base : List StageText) → All IsStageText base → Encodes (stages_relative_at base) (stages_relative_text base) (AreStagesRelative base)
unfolding stages_relative_at
encodes_stages base b =
    encodes (
    then {G = λ stages. length (drop (kept_stages base stages) stages) < 2 ^ 32} {K = All IsStageText} (kept_stages base) (encodes_that (λ kept. nat_le kept (length base)) encodes_u32) (λ kept f.
    encodes (
    then {K = λ stages. All IsStageText stages × (kept ≡ kept_stages base stages)} (λ stages. drop kept stages) (encodes_counted after_further encodes_further (slice_get base kept)) (λ further g.
    let made = made_kept base further kept (leb-true _ _ f.1) (first_in_turn (slice_get base kept) further g.1) in
    all_read (take kept base ++ further)
    (λ stages k. ap (λ (v : List StageText). take kept base ++ v) k.1 ∙ ap (λ (n : ℕ). take n base ++ drop n stages) k.0.1 ∙ kept_header base stages b k.0.0)
    ((all_kept base further kept b (all_in_turn (slice_get base kept) further g.1), sym made.0), sym made.1)))
    (λ stages g. ap (λ (n : ℕ). list_text stage_text (drop n stages) ++ []) g.0.1)
    (λ stages g. (g.0, subst (λ (n : ℕ). length (drop n stages) < 2 ^ 32) g.0.1 g.1.0.0))
    (λ stages g. (g.0, ((subst (λ (n : ℕ). length (drop n stages) < 2 ^ 32) (sym g.0.1) g.1, turn_of (slice_get base kept) (drop kept stages) (all_after kept stages g.0.0) (subst (λ (n : ℕ). FirstOther (slice_get base n) (drop n stages)) (sym g.0.1) (kept_other base stages))), tt)))))
    (λ stages f. ap (λ (v : List ℕ). number_text w32 (kept_stages base stages) ++ v) (append-nil (list_text stage_text (drop (kept_stages base stages) stages))))
    (λ stages f. record { all = f.0; kept = f.1.0.0; few = f.1.1 })
    (λ stages f. (f.all, ((f.kept, le-leb _ _ (kept_low base stages)), f.few)))
