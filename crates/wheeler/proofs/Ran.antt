-- The run after a stage that is done.
use Rattle.std.proofs.Common.{◌≡◌, ℕ, ◌+◌, Option, None, Some, Result, Ok, Err, List, refl, sym, ap, ◌∙◌}
use Rattle.mem_files.specs.Outputs.{IsContent, out}
use Rattle.mem_files.specs.World.{World}
use Rattle.mem_files.proofs.Leftovers.{output-is}
use Rattle.guest_run.specs.Program.{ProgramRun}
use Rattle.guest_run.specs.Run.{End, first_end}
use Rattle.guest_run.specs.Start.{Refusal}
use Rattle.guest_run.specs.State.{GuestState}
use Rattle.guest_run.proofs.Endings.{run-sound}
use Rattle.guest_run.proofs.Programs.{exit-run}
use Rattle.recipe.specs.declared.contents.RecipeContents.{RecipeContents}
use Rattle.recipe.specs.declared.parts.Stage.{Stage}
use Rattle.audit_rules.specs.declared.answer.Finished.{Finished}
use Rattle.audit_rules.specs.Contents.{Contents, box_of, check_of, program_of}
use Rattle.audit_rules.specs.Stages.{by_end, by_start, contents, finished, output_of, stage_result, start_stage}
use Rattle.audit_rules.proofs.Endings.{ended}
use Rattle.audit_rules.proofs.GivenBoxes.{AreContents, box-is, content-is}
use Rattle.audit_rules.proofs.Rules as rules

-- over these contents, a stage's program exits with 0 and leaves this at the stage's output, in which its check finds nothing wrong
pub record Ran (recipe : RecipeContents) (all : Contents) (stage : Stage) (made : List ℕ) : Type 0 where
  pub step : ℕ
  pub world : World
  pub runs : ProgramRun (program_of recipe all stage) (box_of recipe all stage) step 0 world
  pub there : out world (output_of stage.output) ≡ Some made
  pub right : check_of recipe all stage made ≡ None

pub result-ran : (recipe : RecipeContents) (inputs : List (List ℕ)) (done : List Finished) (stage : Stage) (f : Finished) → stage_result recipe inputs done stage ≡ Ok f
    → Ran recipe (contents inputs done) stage f.made
unfolding finished
result-ran recipe inputs done stage f is = by_begin (start_stage recipe (contents inputs done) stage) refl is where
  by_begin : (s : Result GuestState Refusal) → start_stage recipe (contents inputs done) stage ≡ s → by_start recipe inputs done stage s ≡ Ok f
      → Ran recipe (contents inputs done) stage f.made
  by_begin (Err why) started is = absurd cc
  by_begin (Ok guest) started is = by_first (first_end guest stage.steps) refl is where
    by_first : (o : Option (End × GuestState)) → first_end guest stage.steps ≡ o → by_end recipe inputs done stage o ≡ Ok f → Ran recipe (contents inputs done) stage f.made
    by_first None at is = absurd cc
    by_first (Some (end, last)) at is =
        let e = ended recipe inputs done stage end last f is in
        let same : e.made ≡ f.made = ap (λ (g : Finished). g.made) (sym e.is) in
        record {
          step = last.steps + 1;
          world = last.world;
          runs = exit-run (program_of recipe (contents inputs done) stage) (box_of recipe (contents inputs done) stage) guest last stage.steps 0 started
              (at ∙ ap (λ x. Some (x, last)) e.exit);
          there = e.there ∙ ap Some same;
          right = ap (check_of recipe (contents inputs done) stage) (sym same) ∙ e.right;
        }

pub ran-content : (recipe : RecipeContents) (all : Contents) (stage : Stage) (made : List ℕ) → AreContents all → rules.IsStage stage → Ran recipe all stage made → IsContent made
ran-content recipe all stage made are is r =
    output-is r.world (output_of stage.output) made
    (run-sound (program_of recipe all stage) (box_of recipe all stage) r.step 0 r.world (content-is recipe all stage.program are).bytes (box-is recipe all stage are is) r.runs)
    r.there
