-- What `left` saves of a stage's output, if the audit's definition (`bench`) finishes the stage. docs/reference/command-line.md says the
-- same for people.
use Rattle.std.specs.Prelude.{◌≡◌, ℕ, Some, List, [], ◌∷◌, ◌++◌, codes, length, slice_get}
use Rattle.std.specs.FinMap as finite
use Rattle.ddc_base.specs.Outside.{NamedFiles}
use Rattle.recipe.specs.declared.parts.Output.{Output}
use Rattle.recipe.specs.declared.parts.Output.TheVariants.{Stream, File}
use Rattle.recipe.specs.declared.parts.Stage.{Stage}
use Rattle.audit_rules.specs.declared.answer.Finished.{Finished}
use Rattle.audit_rules.specs.declared.cause.RunCause.TheVariants as run
use Rattle.command_plan.specs.declared.status.Status.TheVariants.{Yes}
use Rattle.command_plan.specs.Plan.{Outcome, Plan, outcome}
use Rattle.recipe_plan.specs.Recipes.{needs_apart, needs_inputs, needs_recipe}
use Rattle.stage_commands.specs.Begun.{IsBegun}
use Rattle.stage_commands.specs.Earlier.{needs_earlier, needs_stage}
use Rattle.stage_commands.specs.Left.{file_left_line, left_plan}
use Rattle.stage_commands.specs.declared.ready.Ready.{Ready}

-- the outcome of `left RECIPE STAGE FILE OUT` on these files
abbrev pub left_over : List ℕ → List ℕ → List ℕ → List ℕ → NamedFiles → Outcome
left_over recipe stage file out files = outcome (left_plan (recipe ∷ stage ∷ file ∷ out ∷ [])) files

-- the FILE of a stage's output: `1` for standard output, or the file's path after `./`, so that it is no stream
abbrev pub output_word : Output → List ℕ
output_word Stream = codes "1"
output_word (File path) = codes "./" ++ path

-- what `left` does before it runs the stage
abbrev pub needs_left : List ℕ → List ℕ → List ℕ → (Ready → Plan) → Plan
needs_left recipe stage out next =
    needs_recipe recipe (λ parsed.
    needs_stage parsed stage (λ count.
    needs_apart parsed out (λ _.
    needs_inputs parsed (λ inputs.
    needs_earlier parsed inputs count (λ done.
    next (record { recipe = parsed; inputs = inputs; done = done }))))))

-- the stage of this name, and what `left` starts from on these files
pub record LeftRun (recipe stage out : List ℕ) (files : NamedFiles) : Type 0 where
  pub ready : Ready
  pub begins : IsBegun recipe stage files ready
  pub found : (next : Ready → Plan) → outcome (needs_left recipe stage out next) files ≡ outcome (next ready) files
  pub named : Stage
  pub there : slice_get ready.recipe.stages (length ready.done) ≡ Some named

-- the recorded artefact is saved under OUT, and the line has its size, the exit with 0, and the recorded step
abbrev pub artefact_saved : Stage → List ℕ → Finished → NamedFiles → Outcome
artefact_saved stage out f files = record {
  status = Yes;
  text = file_left_line stage.name (output_word stage.output) (length f.made) (run.Status 0) f.steps;
  files = finite.insert files out f.made;
}
