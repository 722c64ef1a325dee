-- The save of an audit, and the position that a save says. A save names its recipe and inputs by SHA-256 (FIPS 180-4).
-- docs/reference/save.md says the same for people.
use Rattle.std.specs.Prelude.{◌≡◌, ◌≢◌, ◌<◌, ℕ, List, ◌∷◌, map, Result, Ok, Err}
use Rattle.sha2.specs.Sha256.{sha256}
use Rattle.ddc_base.specs.declared.digests.Digest.{Digest}
use Rattle.recipe.specs.declared.contents.RecipeContents.{RecipeContents}
use Rattle.recipe.specs.declared.parts.Stage.{Stage}
use Rattle.checkpoints.specs.Checkpoint.{IsInRange, IsJoined, MayBeMade, guest_of, state_of}
use Rattle.save_format.specs.SaveText.{SaveText, StageText, parsed_save}
use Rattle.audit_rules.specs.declared.answer.Finished.{Finished}
use Rattle.audit_rules.specs.Positions.{Position, at, todo}
use Rattle.audit_rules.specs.Valid.{AreDone}
use Rattle.audit_run.specs.declared.save.reading.SaveRefusal.{SaveRefusal}
use Rattle.audit_run.specs.declared.save.reading.SaveRefusal.TheVariants.{Form, OtherRecipe, State, OutOfMemory}

-- a finished stage in a save, field by field
abbrev pub stage_of : Finished → StageText
stage_of f = record { steps = f.steps; stream1 = f.stream1; stream2 = f.stream2; left = f.left; made = f.made }

abbrev pub finished_of : StageText → Finished
finished_of s = record { steps = s.steps; stream1 = s.stream1; stream2 = s.stream2; left = s.left; made = s.made }

abbrev pub digest_of : List ℕ → Digest
digest_of bytes = record { 0 = sha256 bytes }

-- the save of a position: the digests of the recipe and the inputs, the finished stages, and the present guest's state
abbrev pub save_of : RecipeContents → List (List ℕ) → Position → SaveText
save_of recipe inputs p = record {
  recipe = recipe.digest;
  inputs = map digest_of inputs;
  stages = map stage_of p.done;
  state = state_of p.at;
}

-- the position that a save says
abbrev pub done_in : SaveText → List Finished
done_in save = map finished_of save.stages

abbrev pub position_of : SaveText → Position
position_of save = at (done_in save) (guest_of save.state)

-- a save of this recipe and of these inputs
pub record IsOf (recipe : RecipeContents) (inputs : List (List ℕ)) (save : SaveText) : Type 0 where
  pub same_recipe : save.recipe ≡ recipe.digest
  pub same_inputs : save.inputs ≡ map digest_of inputs

-- a save says a position in this stage of the recipe: each finished stage is possible, and the state is that of a guest. Its steps are
-- below the stage's limit, and its heap limit is the stage's
pub record IsSavedPositionIn (recipe : RecipeContents) (save : SaveText) (stage : Stage) (stages : List Stage) : Type 0 where
  pub left : todo recipe (done_in save) ≡ stage ∷ stages
  pub done : AreDone recipe (done_in save)
  pub range : IsInRange save.state
  pub joined : IsJoined save.state
  pub within : save.state.steps < stage.steps
  pub heap : save.state.heap.limit ≡ stage.heap

abbrev pub IsSavedPosition : RecipeContents → SaveText → Type 0
IsSavedPosition recipe save = (stage : Stage) × (stages : List Stage) × IsSavedPositionIn recipe save stage stages

-- reading a save allocates only if making its state does, and the state's steps and heap limit are right for the present stage
pub record MayOccurIn (recipe : RecipeContents) (save : SaveText) (stage : Stage) (stages : List Stage) : Type 0 where
  pub left : todo recipe (done_in save) ≡ stage ∷ stages
  pub within : save.state.steps < stage.steps
  pub heap : save.state.heap.limit ≡ stage.heap
  pub state : MayBeMade save.state

abbrev pub MayOccur : RecipeContents → SaveText → Type 0
MayOccur recipe save = (stage : Stage) × (stages : List Stage) × MayOccurIn recipe save stage stages

-- the result of reading a save of the recipe
abbrev pub Current : RecipeContents → SaveText → Result Position SaveRefusal → Type 0
Current recipe save (Ok p) = IsSavedPosition recipe save × (p ≡ position_of save)
Current recipe save (Err State) = ¬ (IsSavedPosition recipe save)
Current recipe save (Err OutOfMemory) = MayOccur recipe save
Current recipe save (Err (Form offset)) = ⊥
Current recipe save (Err OtherRecipe) = ⊥

-- the result of reading a text. Judged in this order: its form, whether it is of this recipe and these inputs, whether it is a position.
-- Out of memory occurs only for a well-formed save of this recipe and these inputs that allocates
abbrev pub Resumes : RecipeContents → List (List ℕ) → List ℕ → Result Position SaveRefusal → Type 0
Resumes recipe inputs text (Ok p) = (save : SaveText) × (parsed_save text ≡ Ok save) × IsOf recipe inputs save × IsSavedPosition recipe save × (p ≡ position_of save)
Resumes recipe inputs text (Err (Form offset)) = parsed_save text ≡ Err offset
Resumes recipe inputs text (Err OtherRecipe) = (save : SaveText) × (parsed_save text ≡ Ok save) × ¬ (IsOf recipe inputs save)
Resumes recipe inputs text (Err State) = (save : SaveText) × (parsed_save text ≡ Ok save) × IsOf recipe inputs save × ¬ (IsSavedPosition recipe save)
Resumes recipe inputs text (Err OutOfMemory) = (save : SaveText) × (parsed_save text ≡ Ok save) × IsOf recipe inputs save × MayOccur recipe save

-- the answer to a text: what the rules allow other than out of memory. There is exactly one (`laws::every_text_has_one_answer`)
pub record SaveAnswer (recipe : RecipeContents) (inputs : List (List ℕ)) (text : List ℕ) : Type 0 where
  pub result : Result Position SaveRefusal
  pub resumes : Resumes recipe inputs text result
  pub settled : result ≢ Err OutOfMemory

-- reading a save of this position gives the position, or out of memory
abbrev pub IsResumedAs : Position → Result Position SaveRefusal → Type 0
IsResumedAs p (Ok found) = found ≡ p
IsResumedAs p (Err OutOfMemory) = Unit {0}
IsResumedAs p (Err (Form offset)) = ⊥
IsResumedAs p (Err OtherRecipe) = ⊥
IsResumedAs p (Err State) = ⊥

-- the number of a refusal
abbrev pub save_refusal_number : SaveRefusal → ℕ
save_refusal_number (Form offset) = 1
save_refusal_number OtherRecipe = 2
save_refusal_number State = 3
save_refusal_number OutOfMemory = 4
