-- Names that ascend in a map of files ascend in the lines of these files.
use Rattle.std.proofs.Common.{◌≡◌, ℕ, suc, ◌-◌, Bool, true, List, [], ◌∷◌, ◌++◌, length, map, Option, refl, sym, ap, ◌∙◌, arith}
use Rattle.std.specs.Prelude.{◌&&◌, slice_get}
use Rattle.std.proofs.lemmas.Bool.{and_parts}
use Rattle.std.specs.Ordering.{nat_cmp, is_lt}
use Rattle.std.specs.Cmp.Lexicographic.{slice_cmp}
use Rattle.std.specs.List.Sorted.{IsStrictlySortedBy}
use Rattle.std.proofs.lemmas.Map.Keys.{sorted_head, sorted_tail}
use Rattle.report.specs.declared.types.LeftLine.{LeftLine}
use Rattle.report.specs.Inside.States.{follows, is_after}
use Rattle.report.specs.Reports.{ascend}

abbrev names_of : List LeftLine → List (List ℕ)
names_of files = map (λ file. file.name) files

pub ascend_from_sorted : (files : List LeftLine) → IsStrictlySortedBy (slice_cmp nat_cmp) (map (λ file. file.name) files) → ascend files ≡ true
ascend_from_sorted [] sorted = refl
ascend_from_sorted (file ∷ []) sorted = refl
ascend_from_sorted (file ∷ next ∷ files) sorted =
    let less = (sorted_head (slice_cmp nat_cmp) file.name (names_of (next ∷ files)) sorted).0 in
    let here : is_lt (slice_cmp nat_cmp file.name next.name) ≡ true = ap is_lt less in
    let rest = ascend_from_sorted (next ∷ files) (sorted_tail (slice_cmp nat_cmp) file.name (names_of (next ∷ files)) sorted) in
    rw (here, rest) refl

-- ---- one name more

and_both : (a b : Bool) → a ≡ true → b ≡ true → (a && b) ≡ true
and_both a b h k = rw (h, k) refl

pub ascend_push : (left : List LeftLine) (file : LeftLine) → ascend left ≡ true → follows left file.name ≡ true → ascend (left ++ file ∷ []) ≡ true
ascend_push [] file h k = refl
ascend_push (first ∷ []) file h k = and_both _ _ k refl
ascend_push (first ∷ next ∷ left) file h k =
    let parts = and_parts (is_lt (slice_cmp nat_cmp first.name next.name)) (ascend (next ∷ left)) h in
    let at_last : slice_get (first ∷ next ∷ left) (length (first ∷ next ∷ left) - 1) ≡ slice_get (next ∷ left) (length (next ∷ left) - 1) =
    (let a : suc (suc (length left)) - 1 ≡ suc (length left) = omega arith in
    let b : suc (length left) - 1 ≡ length left = omega arith in
    rw (a, b) refl) in
    and_both _ _ parts.0 (ascend_push (next ∷ left) file parts.1 (ap (λ (o : Option LeftLine). is_after o file.name) (sym at_last) ∙ k))

-- what the neighbours say: a name is after the last one before it
pub follows_last : (prefix : List LeftLine) (file : LeftLine) (more : List LeftLine) → ascend (prefix ++ file ∷ more) ≡ true → follows prefix file.name ≡ true
follows_last [] file more h = refl
follows_last (first ∷ []) file more h = (and_parts (is_lt (slice_cmp nat_cmp first.name file.name)) (ascend (file ∷ more)) h).0
follows_last (first ∷ next ∷ prefix) file more h =
    let rest = (and_parts (is_lt (slice_cmp nat_cmp first.name next.name)) (ascend (next ∷ (prefix ++ file ∷ more))) h).1 in
    let at_last : slice_get (first ∷ next ∷ prefix) (length (first ∷ next ∷ prefix) - 1) ≡ slice_get (next ∷ prefix) (length (next ∷ prefix) - 1) =
    (let a : suc (suc (length prefix)) - 1 ≡ suc (length prefix) = omega arith in
    let b : suc (length prefix) - 1 ≡ length prefix = omega arith in
    rw (a, b) refl) in
    ap (λ (o : Option LeftLine). is_after o file.name) at_last ∙ follows_last (next ∷ prefix) file more rest
