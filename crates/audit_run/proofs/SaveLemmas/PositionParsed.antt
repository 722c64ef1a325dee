-- The position that a save's parts say.
use Rattle.std.proofs.Common.{◌≡◌, ℕ, zero, suc, ◌+◌, ◌<◌, true, None, List, [], ◌∷◌, length, map, drop, get_or, All, refl, sym, ap, subst, ◌∙◌, arith}
use Rattle.std.specs.Prelude.{nat_lt as ltb}
use Rattle.std.proofs.lemmas.Bool.{ltb-true}
use Rattle.std.proofs.lemmas.List.Elements.{All-cons, All-head, All-nil, All-tail}
use Rattle.save_format.specs.ByteFields.Spelling.{InTurn}
use Rattle.recipe.specs.declared.contents.RecipeContents.{RecipeContents}
use Rattle.recipe.specs.declared.parts.Stage.{Stage}
use Rattle.save_format.specs.declared.parts.StagePart.{StagePart}
use Rattle.save_format.specs.SaveText.{SaveText, StageText, after_left}
use Rattle.save_format.specs.Encoded.{IsSavedLeft, IsStageText}
use Rattle.ddc_base.specs.declared.digests.Digest.{Digest}
use Rattle.save_format.specs.Seen.{stage_view}
use Rattle.save_format.specs.StateText.Seen.{state_view}
use Rattle.save_format.specs.declared.state_text.parts.StateParts.{StateParts}
use Rattle.audit_rules.specs.declared.answer.Finished.{Finished}
use Rattle.audit_rules.specs.Positions.{todo}
use Rattle.checkpoints.proofs.Refused.{header_made}
use Rattle.audit_run.specs.Save.Saves.{IsSavedPosition, MayOccur, finished_of}

-- the names of each stage's left files are in order
abbrev pub IsOrdered : Finished → Type 0
IsOrdered f = InTurn IsSavedLeft after_left None f.left

pub each_ordered : (parts : List StagePart) → All IsStageText (map stage_view parts) → All IsOrdered (map (λ part. finished_of (stage_view part)) parts)
each_ordered [] all = All-nil IsOrdered
each_ordered (part ∷ parts) all =
    All-cons IsOrdered (finished_of (stage_view part)) (map (λ part. finished_of (stage_view part)) parts) (All-head IsStageText (stage_view part) (map stage_view parts) all).left.1
    (each_ordered parts (All-tail IsStageText (stage_view part) (map stage_view parts) all))

pub all_of : (any : ℕ) (stages : List StageText) → InTurn (λ (any : ℕ). IsStageText) (λ stage. 0) any stages → All IsStageText stages
all_of any [] turn = All-nil IsStageText
all_of any (stage ∷ stages) turn = All-cons IsStageText stage stages turn.0 (all_of 0 stages turn.1)

pub twice : (parts : List StagePart) → map (λ part. finished_of (stage_view part)) parts ≡ map finished_of (map stage_view parts)
twice [] = refl
twice (part ∷ parts) = ap (λ fs. finished_of (stage_view part) ∷ fs) (twice parts)

at_index : {A : Type 0} (xs : List A) (i : ℕ) (x : A) → i < length xs → x ≡ get_or xs i x → drop i xs ≡ x ∷ drop (i + 1) xs
at_index [] i x less is = absurd (omega arith)
at_index (y ∷ xs) zero x less is = ap (λ z. z ∷ xs) (sym is)
at_index (y ∷ xs) (suc i) x less is =
    let same : suc i + 1 ≡ suc (i + 1) = omega arith in
    at_index xs i x (omega arith) is ∙ ap (λ n. x ∷ drop n (y ∷ xs)) (sym same)

-- the stage after those that are done
pub present : (recipe : RecipeContents) (items : List Stage) (count : ℕ) (done fs : List Finished) (stage : Stage) → items ≡ recipe.stages → count ≡ length done → done ≡ fs → true ≡ ltb count (length items)
    → stage ≡ get_or items count stage → todo recipe fs ≡ stage ∷ drop (length fs + 1) recipe.stages
present recipe items count done fs stage same counted are inside there =
    let index : count ≡ length fs = counted ∙ ap length are in
    subst (λ n. drop n recipe.stages ≡ stage ∷ drop (n + 1) recipe.stages) index
    (subst (λ (stages : List Stage). drop count stages ≡ stage ∷ drop (count + 1) stages) same
    (at_index items count stage (ltb-true count (length items) (sym inside)) there))

-- the save of which these are the stages and the state
abbrev pub parsed_by : List StagePart → StateParts → Digest → List Digest → SaveText
parsed_by parts state recipe inputs = record { recipe = recipe; inputs = inputs; stages = map stage_view parts; state = state_view state }

-- for a saved position memory is taken
pub position_may_occur : (recipe : RecipeContents) (save : SaveText) → IsSavedPosition recipe save → MayOccur recipe save
position_may_occur recipe save (stage, stages, position) =
    (stage, stages, record { left = position.left; within = position.within; heap = position.heap; state = header_made save.state position.range })
