-- A base is judged by itself, and then the text beside what it says.
use Rattle.std.proofs.Common.{◌≡◌, ℕ, List, Result, Ok, Err, sym, ap, subst, ◌∙◌}
use Rattle.recipe.specs.declared.contents.RecipeContents.{RecipeContents}
use Rattle.save_format.specs.SaveText.{SaveText, parsed_save}
use Rattle.save_format.specs.Encoded.{IsSaveText}
use Rattle.audit_rules.specs.Positions.{Position}
use Rattle.audit_rules.specs.Valid.{IsPosition}
use Rattle.audit_run.specs.Save.Saves.{IsSavedPosition, Resumes, Current, save_of}
use Rattle.audit_run.specs.Delta.Deltas.{GoesOnRelative, ResumesRelative}
use Rattle.audit_run.specs.Delta.Inside.Judging.{JudgesBase}
use Rattle.audit_run.specs.declared.delta.reading.DeltaRefusal.{DeltaRefusal}
use Rattle.audit_run.specs.declared.delta.reading.DeltaRefusal.TheVariants.{Base, Form, OtherBase, State, OutOfMemory}
use Rattle.audit_run.specs.declared.save.reading.SaveRefusal.{SaveRefusal}
use Rattle.audit_run.specs.declared.save.reading.SaveRefusal.TheVariants as saves
use Rattle.audit_run.proofs.SaveLemmas.Answered.{is_answer}
use Rattle.audit_run.proofs.SaveLemmas.Exactly.{same_save}
use Rattle.audit_run.proofs.SaveLemmas.PositionParsed.{position_may_occur}

-- what ends the judging of the base ends the whole
pub stops : (recipe : RecipeContents) (inputs : List (List ℕ)) (base text : List ℕ) (refusal : DeltaRefusal) → JudgesBase recipe inputs base (Err refusal) → ResumesRelative recipe inputs base text (Err refusal)
stops recipe inputs base text (Base refusal) judges = judges
stops recipe inputs base text OutOfMemory judges = judges
stops recipe inputs base text (Form offset) judges = absurd judges
stops recipe inputs base text OtherBase judges = absurd judges
stops recipe inputs base text State judges = absurd judges

-- memory may be wanted for a base that is resumed
pub may_want : (recipe : RecipeContents) (inputs : List (List ℕ)) (base : List ℕ) (b : Position) → Resumes recipe inputs base (Ok b) → Resumes recipe inputs base (Err saves.OutOfMemory)
may_want recipe inputs base b (save, is, of, position, found) = (save, is, of, position_may_occur recipe save position)

-- and what was read of it is the save of its position
pub known_is : (recipe : RecipeContents) (inputs : List (List ℕ)) (base : List ℕ) (b : Position) (known : SaveText) → Resumes recipe inputs base (Ok b) → parsed_save base ≡ Ok known → IsSaveText known
    → known ≡ save_of recipe inputs b
known_is recipe inputs base b known (save, is, of, (stage, stages, position), found) parsed text =
    let both : ◌≡◌ {A = Result SaveText ℕ} (Ok save) (Ok known) = sym is ∙ parsed in
    let same : save ≡ known = cc in
    sym (ap (save_of recipe inputs) found ∙ same_save recipe inputs save (subst IsSaveText (sym same) text) of position.range ∙ same)

pub one_base : (recipe : RecipeContents) (inputs : List (List ℕ)) (base : List ℕ) (b c : Position) → Resumes recipe inputs base (Ok b) → Resumes recipe inputs base (Ok c) → IsPosition recipe b → IsPosition recipe c
one_base recipe inputs base b c first second position =
    let both : ◌≡◌ {A = Result Position SaveRefusal} (Ok b) (Ok c) =
    sym (is_answer recipe inputs base (Ok b) first (λ e. cc)) ∙ is_answer recipe inputs base (Ok c) second (λ e. cc) in
    let same : b ≡ c = cc in
    subst (IsPosition recipe) same position

following : (recipe : RecipeContents) (inputs : List (List ℕ)) (base text : List ℕ) (b : Position) (result : Result Position DeltaRefusal) → Resumes recipe inputs base (Ok b)
    → GoesOnRelative recipe (save_of recipe inputs b) text result → ResumesRelative recipe inputs base text result
following recipe inputs base text b (Ok p) r goes = (b, r, goes)
following recipe inputs base text b (Err OtherBase) r goes = (b, r, goes)
following recipe inputs base text b (Err (Form offset)) r goes = (b, r, goes)
following recipe inputs base text b (Err State) r goes = (b, r, goes)
following recipe inputs base text b (Err OutOfMemory) r goes = may_want recipe inputs base b r
following recipe inputs base text b (Err (Base refusal)) r goes = absurd goes

-- what becomes of a text beside what was read of its base
pub goes_after : (recipe : RecipeContents) (inputs : List (List ℕ)) (base text : List ℕ) (b : Position) (known : SaveText) (result : Result Position DeltaRefusal) → Resumes recipe inputs base (Ok b)
    → parsed_save base ≡ Ok known → IsSaveText known → GoesOnRelative recipe known text result → ResumesRelative recipe inputs base text result
goes_after recipe inputs base text b known result r parsed is goes =
    following recipe inputs base text b result r (subst (λ (save : SaveText). GoesOnRelative recipe save text result) (known_is recipe inputs base b known r parsed is) goes)

-- a position that was refused, by its refusal

pub no_form : (recipe : RecipeContents) (save : SaveText) (refusal : SaveRefusal) (offset : ℕ) → refusal ≡ saves.Form offset → Current recipe save (Err refusal) → ⊥
no_form recipe save refusal offset is current = let there : Current recipe save (Err (saves.Form offset)) = subst (λ (r : SaveRefusal). Current recipe save (Err r)) is current in there

pub no_other : (recipe : RecipeContents) (save : SaveText) (refusal : SaveRefusal) → refusal ≡ saves.OtherRecipe → Current recipe save (Err refusal) → ⊥
no_other recipe save refusal is current = let there : Current recipe save (Err saves.OtherRecipe) = subst (λ (r : SaveRefusal). Current recipe save (Err r)) is current in there

pub no_position : (recipe : RecipeContents) (save : SaveText) (refusal : SaveRefusal) → refusal ≡ saves.State → Current recipe save (Err refusal) → ¬ (IsSavedPosition recipe save)
no_position recipe save refusal is current = let there : Current recipe save (Err saves.State) = subst (λ (r : SaveRefusal). Current recipe save (Err r)) is current in there
