-- The delta of every position is short.
use Rattle.std.proofs.Common.{ℕ, zero, suc, ◌<◌, List, [], ◌∷◌, length, map, drop, arith, length-append}
use Rattle.std.specs.List.{flat_map}
use Rattle.ddc_base.specs.Limits.{most_save}
use Rattle.checkpoints.specs.Checkpoint.{state_of}
use Rattle.checkpoints.proofs.PatchLengths.{patches_short}
use Rattle.checkpoints.proofs.TextLengths.{HasAtMost, counted, itself, joined, number32}
use Rattle.recipe.specs.declared.contents.RecipeContents.{RecipeContents}
use Rattle.recipe.specs.Kept.{IsRecipe}
use Rattle.report.proofs.Marks.{is_digest}
use Rattle.save_format.specs.SaveText.{StageText}
use Rattle.save_format.specs.Encoded.{digest_text, stage_text, text_of_save}
use Rattle.save_format.specs.DeltaText.DeltaText.{delta_magic}
use Rattle.save_format.specs.DeltaText.Stages.{kept_stages}
use Rattle.save_format.specs.PatchText.Encoded.{text_of_patch}
use Rattle.audit_rules.specs.Positions.{Position}
use Rattle.audit_rules.specs.Valid.{IsInputs, IsPosition}
use Rattle.audit_run.specs.Save.Saves.{save_of, stage_of}
use Rattle.audit_run.specs.Delta.Deltas.{base_digest, delta_text_of}
use Rattle.audit_run.proofs.SaveLemmas.SaveLengths.{done_most}
use Rattle.audit_run.proofs.SaveLemmas.Written.{has_text}

-- stages after some are no longer than all
after_most : {most : ℕ} (count : ℕ) (stages : List StageText) → HasAtMost most (flat_map stage_text stages) → HasAtMost most (flat_map stage_text (drop count stages))
after_most zero stages all = all
after_most (suc count) [] all = all
after_most (suc count) (stage ∷ stages) all =
    after_most count stages (record { long = omega (arith, all.long, length-append (stage_text stage) (flat_map stage_text stages)) })

patch_most : (recipe : RecipeContents) (inputs : List (List ℕ)) (b p : Position) → IsRecipe recipe → IsInputs recipe inputs → IsPosition recipe b → IsPosition recipe p
    → HasAtMost 1_894_752_591 (text_of_patch (state_of b.at) (state_of p.at))
unfolding state_of
patch_most recipe inputs b p is given base position =
    record { long = patches_short b.at p.at base.2.valid (has_text recipe inputs b is given base).state.steps position.2.valid (has_text recipe inputs p is given position).state.steps }

pub short : (recipe : RecipeContents) (inputs : List (List ℕ)) (b p : Position) → IsRecipe recipe → IsInputs recipe inputs → IsPosition recipe b → IsPosition recipe p
    → length (delta_text_of recipe inputs b p) < most_save
unfolding delta_text_of
short recipe inputs b p is given base position =
    let kept = kept_stages (map stage_of b.done) (map stage_of p.done) in
    let digest : HasAtMost 32 (digest_text (base_digest (save_of recipe inputs b))) =
    record { long = (let count = (is_digest (text_of_save (save_of recipe inputs b))).count in omega arith) } in
    let further = after_most kept (map stage_of p.done) (done_most recipe p is position) in
    let whole =
    joined (itself delta_magic) (joined digest (joined (joined (number32 kept) (counted stage_text (drop kept (map stage_of p.done)) further)) (patch_most recipe inputs b p is given base position))) in
    let long = whole.long in
    omega arith
