-- The save of a position has a text.
use Rattle.std.proofs.Common.{◌≡◌, ℕ, ◌^◌, ◌≤◌, Bool, true, false, ◌&&◌, Option, None, Some, List, [], ◌∷◌, length, map, All, IsTrue, refl, arith, append_assoc}
use Rattle.std.proofs.lemmas.List.{length-map}
use Rattle.std.proofs.lemmas.List.Elements.{All-cons, All-head, All-nil, All-tail}
use Rattle.ddc_base.specs.Limits.{most_steps}
use Rattle.save_format.specs.ByteFields.Spelling.{InTurn}
use Rattle.checkpoints.proofs.FileTurns.{short_name}
use Rattle.checkpoints.proofs.States as states
use Rattle.recipe.specs.declared.contents.RecipeContents.{RecipeContents}
use Rattle.recipe.specs.declared.parts.Stage.{Stage}
use Rattle.recipe.specs.Kept as kept
use Rattle.report.specs.declared.types.LeftLine.{LeftLine}
use Rattle.report.specs.declared.types.Mark.{Mark}
use Rattle.report.specs.Reports.{ascend}
use Rattle.report.proofs.Marks.{is_digest}
use Rattle.save_format.specs.SaveText.{after_left, comes_after}
use Rattle.save_format.specs.Encoded.{IsSavedDigest, IsSavedLeft, IsSavedMark, IsShortStage, IsStageText, IsSaveText}
use Rattle.save_format.proofs.Written.{is_short}
use Rattle.audit_rules.specs.declared.answer.Finished.{Finished}
use Rattle.audit_rules.specs.Positions.{Position}
use Rattle.audit_rules.specs.Valid.{AreFinished, IsFinished, IsInputs, IsLeftLine, IsPosition, IsSmallMark}
use Rattle.audit_rules.proofs.ValidPositions.{present-is}
use Rattle.audit_rules.proofs.Rules as rule
use Rattle.audit_run.specs.Save.Saves.{digest_of, save_of, stage_of}

pub ruleset written = append_assoc

first_two : (a b : Bool) → (a && b) ≡ true → (a ≡ true) × (b ≡ true)
first_two a b e = (and_left a b e, and_right a b e) where
  and_left : (a b : Bool) → (a && b) ≡ true → a ≡ true
  and_left true b e = refl
  and_left false b e = absurd cc

  and_right : (a b : Bool) → (a && b) ≡ true → b ≡ true
  and_right true b e = e
  and_right false b e = absurd cc

mark_of : (mark : Mark) → IsSmallMark mark → IsSavedMark mark
mark_of mark small = record { length = small.length; digest = record { full = small.digest.count } }

left_of : (last : Option (List ℕ)) (file : LeftLine) → IsLeftLine file → comes_after last file.name ≡ true → IsSavedLeft last file
left_of last file line following = let most = (short_name file.name line.named).1 in record { short = omega arith; following = following; mark = mark_of file.mark line.mark }

abbrev IsBegun : Option (List ℕ) → List LeftLine → Type 0
IsBegun last [] = Unit {0}
IsBegun last (file ∷ files) = comes_after last file.name ≡ true

in_turn : (last : Option (List ℕ)) (files : List LeftLine) → All IsLeftLine files → IsTrue (ascend files) → IsBegun last files → InTurn IsSavedLeft after_left last files
in_turn last [] lines up begun = tt
in_turn last (f ∷ []) lines up begun = (left_of last f (All-head IsLeftLine f [] lines) begun, tt)
in_turn last (f ∷ (g ∷ files)) lines up begun =
    let both = first_two (comes_after (Some f.name) g.name) (ascend (g ∷ files)) up in
    (left_of last f (All-head IsLeftLine f (g ∷ files) lines) begun, in_turn (Some f.name) (g ∷ files) (All-tail IsLeftLine f (g ∷ files) lines) both.1 both.0)

begun : (files : List LeftLine) → IsBegun None files
begun [] = tt
begun (file ∷ files) = refl

pub in_order : (f : Finished) (stage : Stage) → IsFinished stage f → InTurn IsSavedLeft after_left None f.left
in_order f stage is = in_turn None f.left is.each_left is.ascending (begun f.left)

stage_is : (stage : Stage) (f : Finished) → stage.steps ≤ most_steps → IsFinished stage f → IsStageText (stage_of f)
stage_is stage f few is =
    let steps = is.few_steps in
    let left = is.few_left in
    let made = is.made.small in
    record {
      steps = omega arith;
      stream1 = mark_of f.stream1 is.stream1;
      stream2 = mark_of f.stream2 is.stream2;
      left = (omega arith, in_order f stage is);
      made = record { short = omega arith };
    }

abbrev HasFew : Stage → Type 0
HasFew stage = stage.steps ≤ most_steps

stages_turn : (stages : List Stage) (done : List Finished) (any : ℕ) → All HasFew stages → AreFinished stages done → InTurn (λ (any : ℕ). IsStageText) (λ stage. 0) any (map stage_of done)
stages_turn stages [] any few are = tt
stages_turn [] (f ∷ done) any few are = absurd are
stages_turn (stage ∷ stages) (f ∷ done) any few are =
    (stage_is stage f (All-head HasFew stage stages few) are.0, stages_turn stages done 0 (All-tail HasFew stage stages few) are.1)

pub few_done : (stages : List Stage) (done : List Finished) → AreFinished stages done → length done ≤ length stages
few_done stages [] are = omega arith
few_done [] (f ∷ done) are = absurd are
few_done (stage ∷ stages) (f ∷ done) are = let rest = few_done stages done are.1 in omega arith

digests_turn : (inputs : List (List ℕ)) (any : ℕ) → InTurn (λ (any : ℕ). IsSavedDigest) (λ input. 0) any (map digest_of inputs)
digests_turn [] any = tt
digests_turn (input ∷ inputs) any = (record { full = (is_digest input).count }, digests_turn inputs 0)

few_steps : (recipe : RecipeContents) → rule.IsRecipe recipe → All HasFew recipe.stages
few_steps recipe is k d less = (is.stages k d less).few_steps

pub has_text : (recipe : RecipeContents) (inputs : List (List ℕ)) (p : Position) → kept.IsRecipe recipe → IsInputs recipe inputs → IsPosition recipe p → IsSaveText (save_of recipe inputs p)
has_text recipe inputs p is given (stage, stages, ok) =
    let rules = rule.rules recipe is in
    let few = few_steps recipe rules in
    let few_inputs = rules.few_inputs in
    let count = given.count in
    let few_stages = rules.few_stages in
    let done = few_done recipe.stages p.done ok.done.each in
    let present = present-is recipe HasFew p.done stage stages few ok.left in
    let within = ok.within in
    record {
      recipe = record { full = rules.digest.count };
      inputs = (omega (arith, length-map inputs digest_of), digests_turn inputs 0);
      stages = (omega (arith, length-map p.done stage_of), stages_turn recipe.stages p.done 0 few ok.done.each);
      state = states.is_text p.at ok.valid (omega arith);
    }

short_in : (stages : List Stage) (done : List Finished) → All HasFew stages → AreFinished stages done → All (λ f. IsShortStage (stage_of f)) done
short_in stages [] few are = All-nil (λ (f : Finished). IsShortStage (stage_of f))
short_in [] (f ∷ done) few are = absurd are
short_in (stage ∷ stages) (f ∷ done) few are =
    All-cons (λ (f : Finished). IsShortStage (stage_of f)) f done (is_short (stage_of f) (stage_is stage f (All-head HasFew stage stages few) are.0))
    (short_in stages done (All-tail HasFew stage stages few) are.1)

pub short_done : (recipe : RecipeContents) (p : Position) → kept.IsRecipe recipe → IsPosition recipe p → All (λ f. IsShortStage (stage_of f)) p.done
short_done recipe p is (stage, stages, ok) = short_in recipe.stages p.done (few_steps recipe (rule.rules recipe is)) ok.done.each
