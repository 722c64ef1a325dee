-- A report to which `verify` returns 0 or 3 is true, clause by clause.
use Rattle.std.proofs.Common.{◌≡◌, ℕ, Bool, true, false, cond, None, List, length, refl}
use Rattle.std.specs.Prelude.{◌↔◌, IsTrue}
use Rattle.ddc_base.specs.Outside.{NamedFiles}
use Rattle.recipe.specs.declared.contents.RecipeContents.{RecipeContents}
use Rattle.recipe.specs.Kept.{IsRecipe}
use Rattle.report.specs.declared.types.Report.{Report}
use Rattle.verifier.specs.Faults.{first_fault}
use Rattle.verifier.specs.TrueReport.{TrueReport}
use Rattle.command_plan.specs.Plan.{outcome}
use Rattle.command_plan.specs.Words.{are_two_files, usage}
use Rattle.verify_commands.specs.Verify.{verify_files}
use Rattle.ddc_app.specs.Accepting.{is_compared, verify}
use Rattle.ddc_app.specs.Headline.{HoldsTrueReport}
use Rattle.ddc_app.specs.Judged.{HoldsReport}
use Rattle.ddc_app.proofs.Named.{inputs-counted}
use Rattle.ddc_app.proofs.Openings.{is_recipe}
use Rattle.ddc_app.proofs.Verifying.{Replayed, replayed}

pub two-words : (recipe report : List ℕ) (files : NamedFiles) (two : Bool) → IsTrue (is_compared (outcome (cond two (verify_files recipe report) usage) files).status) → two ≡ true
two-words recipe report files true is = refl
two-words recipe report files false is = absurd cc

module _ (recipe report : List ℕ) (files : NamedFiles) (compared : IsTrue (is_compared (verify recipe report files).status)) where
  -- the replay that led to the comparison
  abbrev pub replay : Replayed recipe report files (verify recipe report files)
  replay = replayed recipe report files (are_two_files recipe report) compared

  pub replay-held : HoldsReport recipe report files replay.parsed replay.inputs replay.made
  replay-held = record {
    two = two-words recipe report files (are_two_files recipe report) compared;
    recipe_bytes = replay.holds.bytes;
    recipe_held = replay.holds.recipe_held;
    recipe_reads = replay.holds.reads;
    apart = replay.apart;
    report_bytes = replay.text;
    report_held = replay.text_held;
    report_reads = replay.text_reads;
    inputs_held = replay.holds.inputs_held;
  }

  pub true-report : ((parsed : RecipeContents) (inputs : List (List ℕ)) (made : Report) → IsRecipe parsed → length inputs ≡ length parsed.inputs
      → TrueReport parsed inputs made ↔ (first_fault parsed inputs made ≡ None)) → HoldsTrueReport recipe report files
  true-report clauses = record {
    parsed = replay.parsed;
    inputs = replay.inputs;
    made = replay.made;
    held = replay-held;
    is_true =
        (clauses replay.parsed replay.inputs replay.made (is_recipe recipe replay.parsed replay.inputs files replay.holds)
        (inputs-counted files replay.parsed replay.inputs replay.holds.inputs_held)).1 replay.none;
  }
