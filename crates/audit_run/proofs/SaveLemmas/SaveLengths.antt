-- The save of every position is short.
use Rattle.std.proofs.Common.{◌≡◌, ℕ, ◌+◌, ◌*◌, ◌<◌, List, [], ◌∷◌, length, map, All, arith, refl, inl, inr}
use Rattle.std.specs.List.{flat_map}
use Rattle.std.proofs.lemmas.List.{length-map}
use Rattle.std.proofs.lemmas.List.Folds.{flat_map-map}
use Rattle.std.proofs.lemmas.List.Elements.{All-cons, All-map, All-nil}
use Rattle.ddc_base.specs.Limits.{most_save}
use Rattle.checkpoints.specs.Checkpoint.{state_of}
use Rattle.checkpoints.proofs.FileTurns.{short_name}
use Rattle.checkpoints.proofs.StateLengths as state
use Rattle.checkpoints.proofs.TextLengths.{HasAtMost, alike, counted, items, itself, joined, number16, number32, number64, within}
use Rattle.recipe.specs.declared.contents.RecipeContents.{RecipeContents}
use Rattle.recipe.specs.declared.parts.Stage.{Stage}
use Rattle.recipe.specs.Kept.{IsRecipe}
use Rattle.report.specs.declared.types.LeftLine.{LeftLine}
use Rattle.report.specs.declared.types.Mark.{Mark}
use Rattle.report.proofs.Marks.{is_digest}
use Rattle.save_format.specs.declared.byte_fields.form.TextForm.{TextForm}
use Rattle.save_format.specs.declared.byte_fields.form.TextForm.TheVariants.{First, Second}
use Rattle.save_format.specs.SaveText.{save_magic}
use Rattle.save_format.specs.Encoded.{IsTextOfSave, digest_text, left_text, mark_text, save_text_in, stage_text, text_of_save}
use Rattle.save_format.specs.StateText.Encoded as state_text
use Rattle.audit_rules.specs.declared.answer.Finished.{Finished}
use Rattle.audit_rules.specs.Positions.{Position}
use Rattle.audit_rules.specs.Stages.{artefact_bytes}
use Rattle.audit_rules.specs.Valid.{AreFinished, IsFinished, IsInputs, IsLeftLine, IsPosition, IsSmallMark}
use Rattle.audit_rules.proofs.Rules as rule
use Rattle.audit_run.specs.Save.Saves.{digest_of, save_of, stage_of}
use Rattle.audit_run.proofs.SaveLemmas.Written.{few_done}

input_most : (input : List ℕ) → HasAtMost 32 (digest_text (digest_of input))
input_most input = record { long = (let count = (is_digest input).count in omega arith) }

mark_most : (mark : Mark) → IsSmallMark mark → HasAtMost 36 (mark_text mark)
unfolding mark_text
mark_most mark small = let count = small.digest.count in joined {n = 32} (number32 mark.length) (record { long = omega arith })

left_most : (file : LeftLine) → IsLeftLine file → HasAtMost 293 (left_text file)
left_most file line = joined {m = 257} (joined {n = 255} (number16 (length file.name)) (record { long = (short_name file.name line.named).1 })) (mark_most file.mark line.mark)

stage_most : (stage : Stage) (f : Finished) → IsFinished stage f → HasAtMost (1_200_216 + length f.made) (stage_text (stage_of f))
unfolding stage_text
stage_most stage f is =
    let few = is.few_left in
    within (joined (number64 f.steps) (joined (mark_most f.stream1 is.stream1) (joined (mark_most f.stream2 is.stream2)
    (joined (counted left_text f.left (alike left_text 293 f.left (λ k d less. left_most _ (is.each_left k d less)))) (joined (number32 (length f.made)) (itself f.made)))))) (omega arith)

abbrev IsShort : Finished → Type 0
IsShort f = HasAtMost (1_200_216 + length f.made) (stage_text (stage_of f))

stages_most : (stages : List Stage) (done : List Finished) → AreFinished stages done → All IsShort done
stages_most stages [] are = All-nil IsShort
stages_most [] (f ∷ done) are = absurd are
stages_most (stage ∷ stages) (f ∷ done) are = All-cons IsShort f done (stage_most stage f are.0) (stages_most stages done are.1)

magic_long : (form : TextForm) → length (save_magic form) ≡ 8
magic_long First = refl
magic_long Second = refl

pub done_most : (recipe : RecipeContents) (p : Position) → IsRecipe recipe → IsPosition recipe p → HasAtMost 1_380_997_120 (flat_map stage_text (map stage_of p.done))
done_most recipe p is (stage, stages, ok) =
    let few_stages = (rule.rules recipe is).few_stages in
    let small = ok.done.small in
    let few = few_done recipe.stages p.done ok.done.each in
    let done : HasAtMost (length p.done * 1_200_216 + artefact_bytes p.done) (flat_map stage_text (map stage_of p.done)) =
    rw flat_map-map (items (λ f. stage_text (stage_of f)) (λ f. length f.made) 1_200_216 p.done (stages_most recipe.stages p.done ok.done.each)) in
    within done (omega arith)

save_most : (form : TextForm) (recipe : RecipeContents) (inputs : List (List ℕ)) (p : Position) → IsRecipe recipe → IsInputs recipe inputs → IsPosition recipe p → HasAtMost 3_273_774_457 (save_text_in form (save_of recipe inputs p))
unfolding save_text_in
save_most form recipe inputs p is given (stage, stages, ok) =
    let rules = rule.rules recipe is in
    let digest = rules.digest.count in
    let few_inputs = rules.few_inputs in
    let count = given.count in
    let parsed : HasAtMost 32 (digest_text recipe.digest) = record { long = omega arith } in
    let given_inputs = alike digest_text 32 (map digest_of inputs) (All-map (λ digest. HasAtMost 32 (digest_text digest)) digest_of inputs (λ k d less. input_most _)) in
    let done = done_most recipe p is (stage, stages, ok) in
    let at : HasAtMost 1_892_769_097 (state_text.state_text_in form (state_of p.at)) = record { long = state.short form p.at ok.valid } in
    within (joined (itself (save_magic form)) (joined parsed (joined (counted digest_text (map digest_of inputs) given_inputs) (joined (counted stage_text (map stage_of p.done) done) at))))
    (omega (arith, magic_long form, length-map inputs digest_of))

pub short : (recipe : RecipeContents) (inputs : List (List ℕ)) (p : Position) → IsRecipe recipe → IsInputs recipe inputs → IsPosition recipe p → length (text_of_save (save_of recipe inputs p)) < most_save
short recipe inputs p is given at = let long = (save_most Second recipe inputs p is given at).long in omega arith

pub texts_short : (recipe : RecipeContents) (inputs : List (List ℕ)) (p : Position) (text : List ℕ) → IsRecipe recipe → IsInputs recipe inputs → IsPosition recipe p → IsTextOfSave (save_of recipe inputs p) text → length text < most_save
texts_short recipe inputs p text is given at (inl new) = rw new (short recipe inputs p is given at)
texts_short recipe inputs p text is given at (inr old) = let long = (save_most First recipe inputs p is given at).long in rw old.1 (omega arith)
