-- Files that are read one after the other relative to those of a base.
use Rattle.std.proofs.Common.{◌≡◌, ℕ, suc, ◌+◌, ◌-◌, ◌<◌, ◌≤◌, Bool, true, false, ◌&&◌, nat_le, Option, None, List, [], ◌∷◌, ◌++◌, length, drop, map, take, Ok, Err, inl, inr, zero, refl, sym, ap, ◌∙◌, append_assoc, arith, le-leb}
use Rattle.std.proofs.lemmas.List.{append-nil, drop-drop, length-map, map-append, take-map}
use Rattle.std.proofs.lemmas.Bool.{cases_lt, lt-leb}
use Rattle.report.specs.declared.types.LeftLine.{LeftLine}
use Rattle.save_format.specs.ByteFields.Reader.{Read, several}
use Rattle.save_format.specs.Seen.{stage_view}
use Rattle.save_format.specs.SaveText.{StageText}
use Rattle.save_format.specs.declared.parts.StagePart.{StagePart}
use Rattle.save_format.specs.DeltaText.Inside.Relative.{IsLeftNext}
use Rattle.save_format.specs.DeltaText.Stages.{equal_lefts}
use Rattle.save_format.specs.SaveText.{after_left, saved_left_at}
use Rattle.save_format.proofs.ByteFieldsLemmas.Loop.{goes_on, is_done, with_prefix}

-- a base's stages are as many as they are seen
pub count_seen : (base : List StagePart) → length (map stage_view base) ≡ length base
count_seen base = length-map base stage_view

-- kept stages and further ones are seen one by one
pub joined_seen : (kept : ℕ) (base further joined : List StagePart) → joined ≡ take kept base ++ further → map stage_view joined ≡ take kept (map stage_view base) ++ map stage_view further
joined_seen kept base further joined is =
    ap (map stage_view) is ∙ map-append stage_view (take kept base) further ∙ ap (λ (v : List StageText). v ++ map stage_view further) (sym (take-map stage_view kept base))

-- some lines were read, which are those of the base as far as they go
pub record Relative (known : List LeftLine) (index : ℕ) (same : Bool) (count : ℕ) (last : Option (List ℕ)) (left : List ℕ) (total : Read (List LeftLine)) : Type 0 where
  pub prefix : List LeftLine
  pub read : with_prefix prefix (several saved_left_at after_left last count left) ≡ total
  pub sames : (rest : List LeftLine) → equal_lefts known (prefix ++ rest) ≡ (same && equal_lefts (drop index known) rest)

next_left : (files : List LeftLine) (line : LeftLine) (rest : List LeftLine) (next : Bool) → IsLeftNext files line next → equal_lefts files (line ∷ rest) ≡ (next && equal_lefts (drop 1 files) rest)
next_left [] line rest next is = ap (λ b. b && equal_lefts [] rest) (sym is)
next_left (file ∷ files) line rest next is = ap (λ b. b && equal_lefts files rest) (sym is)

both_and : (a b c : Bool) → (a && (b && c)) ≡ ((a && b) && c)
both_and true b c = refl
both_and false b c = refl

after_next : (known : List LeftLine) (index : ℕ) → drop 1 (drop index known) ≡ drop (index + 1) known
after_next known index = drop-drop 1 index known ∙ ap (λ n. drop n known) (omega arith)

pub sets_out : (known : List LeftLine) (count : ℕ) (left : List ℕ) → Relative known 0 true (count - 0) None left (several saved_left_at after_left None count left)
sets_out known count left = record {
  prefix = [];
  read = by (several saved_left_at after_left None (count - 0) left) ∙ ap (λ n. several saved_left_at after_left None n left) (omega arith);
  sames = λ rest. refl;
}
  where
    by : (read : Read (List LeftLine)) → with_prefix [] read ≡ read
    by (Ok r) = refl
    by (Err at) = refl

pub went_on : (known : List LeftLine) (index count : ℕ) (same next : Bool) (last after : Option (List ℕ)) (left following : List ℕ) (line : LeftLine) (total : Read (List LeftLine)) → index < count
    → saved_left_at last left ≡ Ok (line, following) → after_left line ≡ after → IsLeftNext (drop index known) line next
    → Relative known index same (count - index) last left total → Relative known (index + 1) (same && next) (count - (index + 1)) after following total
went_on known index count same next last after left following line total lt read is left_is b = record {
  prefix = b.prefix ++ line ∷ [];
  read = goes_on saved_left_at after_left last after b.prefix count index left line following total lt read is b.read;
  sames = λ rest.
      ap (equal_lefts known) (append_assoc b.prefix (line ∷ []) rest) ∙ b.sames (line ∷ rest)
      ∙ ap (λ c. same && c) (next_left (drop index known) line rest next left_is)
      ∙ both_and same next (equal_lefts (drop 1 (drop index known)) rest)
      ∙ ap (λ (files : List LeftLine). (same && next) && equal_lefts files rest) (after_next known index);
}

none_left : (files : List LeftLine) (n : ℕ) → length files ≡ n → equal_lefts files [] ≡ nat_le n 0
none_left [] n e = ap (λ n. nat_le n 0) e
none_left (file ∷ files) n e = sym (lt-leb n 0 (omega (arith, e)))

all_reached : (known : List LeftLine) (count : ℕ) → equal_lefts (drop count known) [] ≡ nat_le (length known) count
all_reached [] zero = refl
all_reached [] (suc count) = sym (le-leb 0 (suc count) (omega arith))
all_reached (file ∷ files) zero = sym (lt-leb (length (file ∷ files)) 0 (omega arith))
all_reached (file ∷ files) (suc count) = all_reached files count ∙ shifted
  where
    shifted : nat_le (length files) count ≡ nat_le (suc (length files)) (suc count)
    shifted =
        elim (cases_lt count (length files)) [
          | inl lt ↦ lt-leb (length files) count lt ∙ sym (lt-leb (suc (length files)) (suc count) (omega (arith, lt)))
          | inr le ↦ le-leb (length files) count le ∙ sym (le-leb (suc (length files)) (suc count) (omega (arith, le)))
        ]

pub is_past : (known : List LeftLine) (index count : ℕ) (same : Bool) (last : Option (List ℕ)) (left : List ℕ) (total : Read (List LeftLine)) → count ≤ index → index ≤ count
    → Relative known index same (count - index) last left total
    → (lines : List LeftLine) × (total ≡ Ok (lines, left)) × ((same && nat_le (length known) count) ≡ equal_lefts known lines)
is_past known index count same last left total le ge b = (
  b.prefix,
  is_done saved_left_at after_left last b.prefix count index left total le b.read,
  ap (λ c. same && c) (sym (all_reached known count)) ∙ ap (λ (n : ℕ). same && equal_lefts (drop n known) []) (omega (arith, le, ge)) ∙ sym (b.sames []) ∙ ap (equal_lefts known) (append-nil b.prefix),
)
