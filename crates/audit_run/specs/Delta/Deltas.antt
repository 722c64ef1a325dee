-- The delta of a position against the save of another one, its base, and the result of reading a text relative to a base.
-- docs/reference/delta.md says the same for people.
use Rattle.std.specs.Prelude.{◌≡◌, ◌≢◌, ℕ, IsOk, IsTrue, List, map, Result, Ok, Err}
use Rattle.ddc_base.specs.declared.digests.Digest.{Digest}
use Rattle.recipe.specs.declared.contents.RecipeContents.{RecipeContents}
use Rattle.checkpoints.specs.Checkpoint.{state_of}
use Rattle.save_format.specs.SaveText.{SaveText}
use Rattle.save_format.specs.Encoded.{IsTextOfSave, text_of_save}
use Rattle.save_format.specs.DeltaText.DeltaText.{DeltaText, parsed_delta, text_of_delta}
use Rattle.save_format.specs.DeltaText.Header.{is_of_other_base}
use Rattle.audit_rules.specs.Positions.{Position}
use Rattle.audit_rules.specs.Valid.{IsPosition}
use Rattle.audit_run.specs.Save.Saves.{IsSavedPosition, Resumes, digest_of, position_of, save_of, save_refusal_number, stage_of}
use Rattle.audit_run.specs.declared.delta.reading.DeltaRefusal.{DeltaRefusal}
use Rattle.audit_run.specs.declared.delta.reading.DeltaRefusal.TheVariants.{Base, Form, OtherBase, State, OutOfMemory}
use Rattle.audit_run.specs.declared.save.reading.SaveRefusal.TheVariants as save

-- ---- what is written

-- the digest by which deltas name a base: that of its save in the second form
abbrev pub base_digest : SaveText → Digest
base_digest base = digest_of (text_of_save base)

-- the parts of a position's delta: the base's digest, the finished stages, and the present guest's state
abbrev pub delta_of : RecipeContents → List (List ℕ) → Position → Position → DeltaText
delta_of recipe inputs base p = record {
  base = base_digest (save_of recipe inputs base);
  stages = map stage_of p.done;
  state = state_of p.at;
}

-- its one text: the first stages that are the same in both are counted and left out, and the state is a patch of the base's
unfoldable pub delta_text_of : RecipeContents → List (List ℕ) → Position → Position → List ℕ
delta_text_of recipe inputs base p = text_of_delta (save_of recipe inputs base) (delta_of recipe inputs base p)

-- ---- what is read

-- the bytes are a save of this position, in either form
abbrev pub IsBaseAt : RecipeContents → List (List ℕ) → Position → List ℕ → Type 0
IsBaseAt recipe inputs base text = IsPosition recipe base × IsTextOfSave (save_of recipe inputs base) text

-- a text begins as a delta against another base
abbrev pub NamesAnotherBase : SaveText → List ℕ → Type 0
NamesAnotherBase base text = IsTrue (is_of_other_base (base_digest base) text)

-- the save of the position that a delta says: its stages and its state, with the base's recipe and inputs
abbrev pub save_relative : SaveText → DeltaText → SaveText
save_relative base delta = record { recipe = base.recipe; inputs = base.inputs; stages = delta.stages; state = delta.state }

-- the result of reading a text relative to the save of its base. Judged in this order: whether it names another base, its form, whether it
-- is a position. Memory may run out only if it names this base and has the form
abbrev pub GoesOnRelative : RecipeContents → SaveText → List ℕ → Result Position DeltaRefusal → Type 0
GoesOnRelative recipe base text (Ok p) =
    ¬ (NamesAnotherBase base text)
    × (delta : DeltaText) × (parsed_delta base text ≡ Ok delta) × IsSavedPosition recipe (save_relative base delta) × (p ≡ position_of (save_relative base delta))
GoesOnRelative recipe base text (Err OtherBase) = NamesAnotherBase base text
GoesOnRelative recipe base text (Err (Form offset)) = ¬ (NamesAnotherBase base text) × (parsed_delta base text ≡ Err offset)
GoesOnRelative recipe base text (Err State) =
    ¬ (NamesAnotherBase base text) × (delta : DeltaText) × (parsed_delta base text ≡ Ok delta) × ¬ (IsSavedPosition recipe (save_relative base delta))
GoesOnRelative recipe base text (Err OutOfMemory) = ¬ (NamesAnotherBase base text) × IsOk (parsed_delta base text)
GoesOnRelative recipe base text (Err (Base refusal)) = ⊥

-- the result of reading a base and a text. The base is judged first and whole, as a save is. Out of memory is never said of the base; it
-- occurs only where it may occur for the base as a save
abbrev pub ResumesRelative : RecipeContents → List (List ℕ) → List ℕ → List ℕ → Result Position DeltaRefusal → Type 0
ResumesRelative recipe inputs base text (Err (Base refusal)) = Resumes recipe inputs base (Err refusal) × (refusal ≢ save.OutOfMemory)
ResumesRelative recipe inputs base text (Err OutOfMemory) = Resumes recipe inputs base (Err save.OutOfMemory)
ResumesRelative recipe inputs base text result = (b : Position) × Resumes recipe inputs base (Ok b) × GoesOnRelative recipe (save_of recipe inputs b) text result

-- the answer to a base and a text: what the rules allow other than out of memory. There is exactly one (`laws::every_delta_has_one_answer`)
pub record DeltaAnswer (recipe : RecipeContents) (inputs : List (List ℕ)) (base text : List ℕ) : Type 0 where
  pub result : Result Position DeltaRefusal
  pub resumes : ResumesRelative recipe inputs base text result
  pub settled : result ≢ Err OutOfMemory

-- a text is the delta of a position against that of its base
abbrev pub HasDelta : RecipeContents → List (List ℕ) → List ℕ → List ℕ → Position → Type 0
HasDelta recipe inputs base text p = (b : Position) × IsBaseAt recipe inputs b base × (text ≡ delta_text_of recipe inputs b p)

-- reading this position's delta gives the position, or out of memory
abbrev pub IsResumedRelativeAs : Position → Result Position DeltaRefusal → Type 0
IsResumedRelativeAs p (Ok found) = found ≡ p
IsResumedRelativeAs p (Err OutOfMemory) = Unit {0}
IsResumedRelativeAs p (Err (Base refusal)) = ⊥
IsResumedRelativeAs p (Err (Form offset)) = ⊥
IsResumedRelativeAs p (Err OtherBase) = ⊥
IsResumedRelativeAs p (Err State) = ⊥

-- the number of a refusal: 1 to 3 for the base, 4 for out of memory, 5 to 7 for the delta
abbrev pub delta_refusal_number : DeltaRefusal → ℕ
delta_refusal_number (Base refusal) = save_refusal_number refusal
delta_refusal_number (Form offset) = 5
delta_refusal_number OtherBase = 6
delta_refusal_number State = 7
delta_refusal_number OutOfMemory = 4
