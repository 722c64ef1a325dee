-- Exactly the saves of positions of an audit are read, each as its position.
use Rattle.std.proofs.Common.{◌≡◌, ℕ, List, [], ◌∷◌, map, Result, Ok, Err, refl, sym, ap, subst, ◌∙◌}
use Rattle.std.specs.Prelude.{IfOk}
use Rattle.save_format.proofs.ByteFieldsLemmas.Encodes.{AreBytes}
use Rattle.guest_run.specs.Valid.{IsValid}
use Rattle.recipe.specs.declared.contents.RecipeContents.{RecipeContents}
use Rattle.recipe.specs.Kept as kept
use Rattle.checkpoints.specs.Checkpoint.{IsInRange, guest_of, state_of}
use Rattle.checkpoints.proofs.SameText.{same_text}
use Rattle.checkpoints.proofs.States.{in_range, joined, same_guest}
use Rattle.save_format.specs.declared.parts.InputPart.{InputPart}
use Rattle.save_format.specs.SaveText.{SaveText, StageText, parsed_save}
use Rattle.save_format.specs.Encoded.{IsSaveText, IsTextOfSave}
use Rattle.save_format.specs.Seen.{input_view}
use Rattle.save_format.proofs.Texts.{formed_again, encoded}
use Rattle.audit_rules.specs.declared.answer.Finished.{Finished}
use Rattle.audit_rules.specs.Positions.{Position, at, todo}
use Rattle.audit_rules.specs.Valid.{AreDone, IsInputs, IsPosition}
use Rattle.audit_run.specs.declared.save.reading.SaveRefusal.{SaveRefusal}
use Rattle.audit_run.specs.declared.save.reading.SaveRefusal.TheVariants.{Form, OtherRecipe, State, OutOfMemory}
use Rattle.audit_run.specs.Save.Saves.{IsOf, IsSavedPosition, IsResumedAs, Resumes, Current, digest_of, finished_of, position_of, save_of, stage_of}
use Rattle.audit_run.specs.Save.Inside.Seen.{AreDigests}
use Rattle.audit_run.proofs.SaveLemmas.Written.{has_text}

-- ---- inputs

pub same_digests : (parts : List InputPart) (inputs : List (List ℕ)) → AreDigests parts inputs → map input_view parts ≡ map digest_of inputs
same_digests [] [] are = refl
same_digests [] (input ∷ inputs) are = absurd are
same_digests (part ∷ parts) [] are = absurd are
same_digests (part ∷ parts) (input ∷ inputs) are = λ i. are.0 i ∷ same_digests parts inputs are.1 i

pub are_digests : (parts : List InputPart) (inputs : List (List ℕ)) → map input_view parts ≡ map digest_of inputs → AreDigests parts inputs
are_digests [] [] same = tt
are_digests [] (input ∷ inputs) same = cc
are_digests (part ∷ parts) [] same = cc
are_digests (part ∷ parts) (input ∷ inputs) same = (cc, are_digests parts inputs cc)

-- ---- what a save says of a position, and back

pub same_stages : (stages : List StageText) → map stage_of (map finished_of stages) ≡ stages
same_stages [] = refl
same_stages (stage ∷ stages) = ap (λ ss. stage ∷ ss) (same_stages stages)

same_done : (done : List Finished) → map finished_of (map stage_of done) ≡ done
same_done [] = refl
same_done (f ∷ done) = ap (λ fs. f ∷ fs) (same_done done)

pub same_save : (recipe : RecipeContents) (inputs : List (List ℕ)) (save : SaveText) → IsSaveText save → IsOf recipe inputs save → IsInRange save.state → save_of recipe inputs (position_of save) ≡ save
same_save recipe inputs save text is range =
    λ i. record {
      recipe = sym is.same_recipe i;
      inputs = sym is.same_inputs i;
      stages = same_stages save.stages i;
      state = same_text save.state text.state range i;
    }

pub same_position : (recipe : RecipeContents) (inputs : List (List ℕ)) (p : Position) → IsValid p.at → position_of (save_of recipe inputs p) ≡ p
same_position recipe inputs p valid = λ i. at (same_done p.done i) (same_guest p.at valid i)

same_parsed : (text : List ℕ) (s t : SaveText) → parsed_save text ≡ Ok s → parsed_save text ≡ Ok t → s ≡ t
same_parsed text s t a b = let both : ◌≡◌ {A = Result SaveText ℕ} (Ok s) (Ok t) = sym a ∙ b in cc

-- ---- each answer

-- a saved position whose guest is valid is a position
pub saved_is_position : (recipe : RecipeContents) (save : SaveText) (p : Position) → IsValid p.at → IsSavedPosition recipe save → p ≡ position_of save → IsPosition recipe p
unfolding guest_of
saved_is_position recipe save p valid (stage, stages, position) found =
    subst (IsPosition recipe) (sym found) (
      stage,
      stages,
      record {
        left = position.left;
        within = position.within;
        heap = position.heap;
        valid = subst (λ (q : Position). IsValid q.at) found valid;
        done = position.done;
      },
    )

pub is_position : (recipe : RecipeContents) (inputs : List (List ℕ)) (text : List ℕ) (result : Result Position SaveRefusal) → IfOk result (λ p. IsValid p.at) → Resumes recipe inputs text result → IfOk result (λ p. IsPosition recipe p)
is_position recipe inputs text (Ok p) valid (save, formed_is, is, position, found) = saved_is_position recipe save p valid position found
is_position recipe inputs text (Err refusal) valid resumes = tt

pub is_found : (recipe : RecipeContents) (inputs : List (List ℕ)) (text : List ℕ) (result : Result Position SaveRefusal) → AreBytes text → Resumes recipe inputs text result
    → IfOk result (λ p. IsTextOfSave (save_of recipe inputs p) text)
is_found recipe inputs text (Ok p) fits (save, formed_is, is, (stage, stages, position), found) =
    let encoding = encoded text save fits formed_is in
    let same : save_of recipe inputs p ≡ save = ap (save_of recipe inputs) found ∙ same_save recipe inputs save encoding.0 is position.range in
    subst (λ (parsed : SaveText). IsTextOfSave parsed text) (sym same) encoding.1
is_found recipe inputs text (Err refusal) fits resumes = tt

-- the save of a position

saves_its_recipe : (recipe : RecipeContents) (inputs : List (List ℕ)) (p : Position) → IsOf recipe inputs (save_of recipe inputs p)
saves_its_recipe recipe inputs p = record { same_recipe = refl; same_inputs = refl }

pub saves_a_position : (recipe : RecipeContents) (inputs : List (List ℕ)) (p : Position) → IsPosition recipe p → IsSavedPosition recipe (save_of recipe inputs p)
unfolding state_of
saves_a_position recipe inputs p (stage, stages, ok) =
    let same : map finished_of (map stage_of p.done) ≡ p.done = same_done p.done in (
      stage,
      stages,
      record {
        left = ap (todo recipe) same ∙ ok.left;
        done = subst (AreDone recipe) (sym same) ok.done;
        range = in_range p.at ok.valid;
        joined = joined p.at ok.valid;
        within = ok.within;
        heap = ok.heap;
      },
    )

pub formed_of : (recipe : RecipeContents) (inputs : List (List ℕ)) (text : List ℕ) (p : Position) → kept.IsRecipe recipe → IsInputs recipe inputs → IsPosition recipe p → IsTextOfSave (save_of recipe inputs p) text
    → parsed_save text ≡ Ok (save_of recipe inputs p)
formed_of recipe inputs text p is given position parsed = formed_again (save_of recipe inputs p) text (has_text recipe inputs p is given position) parsed

pub is_only : (recipe : RecipeContents) (inputs : List (List ℕ)) (text : List ℕ) (result : Result Position SaveRefusal) → kept.IsRecipe recipe → IsInputs recipe inputs → Resumes recipe inputs text result
    → (p : Position) → IsPosition recipe p → IsTextOfSave (save_of recipe inputs p) text → IsResumedAs p result
is_only recipe inputs text (Ok found) is given resumes p position parsed =
    let same = same_parsed text resumes.0 (save_of recipe inputs p) resumes.1 (formed_of recipe inputs text p is given position parsed) in
    resumes.4 ∙ ap position_of same ∙ same_position recipe inputs p position.2.valid
is_only recipe inputs text (Err OutOfMemory) is given resumes p position parsed = tt
is_only recipe inputs text (Err (Form offset)) is given resumes p position parsed =
    let both : ◌≡◌ {A = Result SaveText ℕ} (Err offset) (Ok (save_of recipe inputs p)) = sym resumes ∙ formed_of recipe inputs text p is given position parsed in
    cc
is_only recipe inputs text (Err OtherRecipe) is given resumes p position parsed =
    let same = same_parsed text resumes.0 (save_of recipe inputs p) resumes.1 (formed_of recipe inputs text p is given position parsed) in
    resumes.2 (subst (IsOf recipe inputs) (sym same) (saves_its_recipe recipe inputs p))
is_only recipe inputs text (Err State) is given resumes p position parsed =
    let same = same_parsed text resumes.0 (save_of recipe inputs p) resumes.1 (formed_of recipe inputs text p is given position parsed) in
    resumes.3 (subst (IsSavedPosition recipe) (sym same) (saves_a_position recipe inputs p position))

-- what becomes of what a save of this recipe and these inputs says becomes of its text
pub stood : (recipe : RecipeContents) (inputs : List (List ℕ)) (text : List ℕ) (save : SaveText) (result : Result Position SaveRefusal)
    → parsed_save text ≡ Ok save → IsOf recipe inputs save → Current recipe save result → Resumes recipe inputs text result
stood recipe inputs text save (Ok p) is of current = (save, is, of, current.0, current.1)
stood recipe inputs text save (Err State) is of current = (save, is, of, current)
stood recipe inputs text save (Err OutOfMemory) is of current = (save, is, of, current)
stood recipe inputs text save (Err (Form offset)) is of current = absurd current
stood recipe inputs text save (Err OtherRecipe) is of current = absurd current
