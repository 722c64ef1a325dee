-- The audit's definition: the stages in order, the comparisons and the report. docs/reference/audit.md says the same for people.
use Rattle.std.specs.Prelude.{ℕ, suc, Bool, true, false, Option, None, Some, Result, Ok, Err, List, [], ◌∷◌, ◌++◌, length, map}
use Rattle.std.specs.List.{list_all}
use Rattle.ddc_base.specs.Difference.{first_difference}
use Rattle.recipe.specs.declared.contents.RecipeContents.{RecipeContents}
use Rattle.recipe.specs.declared.parts.Input.{Input}
use Rattle.recipe.specs.declared.parts.Stage.{Stage}
use Rattle.report.specs.declared.types.CompareLine.{CompareLine}
use Rattle.report.specs.declared.types.Compared.{Compared}
use Rattle.report.specs.declared.types.Compared.TheVariants.{Equal, Differs}
use Rattle.report.specs.declared.types.InputLine.{InputLine}
use Rattle.report.specs.declared.types.Report.{Report}
use Rattle.report.specs.declared.types.StageLine.{StageLine}
use Rattle.audit_rules.specs.declared.answer.AuditAnswer.{AuditAnswer}
use Rattle.audit_rules.specs.declared.answer.AuditAnswer.TheVariants.{Completes, Fails}
use Rattle.audit_rules.specs.declared.answer.StageFault.{StageFault}
use Rattle.audit_rules.specs.declared.answer.Finished.{Finished}
use Rattle.audit_rules.specs.Contents.{Contents, check_language, content}
use Rattle.report.specs.Marks.{mark_of}
use Rattle.audit_rules.specs.Stages.{contents, stage_result}

-- the report's lines of the inputs, each with the mark of its bytes
abbrev pub input_lines : List Input → List (List ℕ) → List InputLine
input_lines (input ∷ rest) (bytes ∷ inputs) = record { name = input.name; mark = mark_of bytes } ∷ input_lines rest inputs
input_lines _ _ = []

-- the report's lines of stages that are done
abbrev pub stage_line : RecipeContents → Stage → Finished → StageLine
stage_line recipe stage f = record {
  name = stage.name;
  steps = f.steps;
  stream1 = f.stream1;
  stream2 = f.stream2;
  left = f.left;
  made = mark_of f.made;
  checked = check_language recipe stage;
}

abbrev pub stage_lines : RecipeContents → List Stage → List Finished → List StageLine
stage_lines recipe (stage ∷ stages) (f ∷ done) = stage_line recipe stage f ∷ stage_lines recipe stages done
stage_lines recipe _ _ = []

-- how an artefact and a binary compare: equal, with their length; or the first offset at which they differ or one has ended, and both
-- lengths
abbrev pub compared_at : Option ℕ → List ℕ → List ℕ → Compared
compared_at None made binary = Equal (length made)
compared_at (Some offset) made binary = Differs offset (length made) (length binary)

abbrev pub compared : List ℕ → List ℕ → Compared
compared made binary = compared_at (first_difference made binary) made binary

-- the comparisons of the recipe: the artefact of each compared stage with the binary, in order
abbrev pub compare_line : RecipeContents → Contents → List ℕ → CompareLine
compare_line recipe all stage = record {
  stage = stage;
  binary = recipe.compare.binary;
  result = compared (content recipe all stage) (content recipe all recipe.compare.binary);
}

abbrev pub compare_lines : RecipeContents → Contents → List CompareLine
compare_lines recipe all = map (compare_line recipe all) recipe.compare.stages

-- whether a comparison, and whether each of them, says that the artefact and the binary are equal
abbrev pub is_equal : Compared → Bool
is_equal (Equal length) = true
is_equal (Differs offset ours theirs) = false

abbrev pub all_equal : List CompareLine → Bool
all_equal lines = list_all (λ (line : CompareLine). is_equal line.result) lines

-- the report of all stages
unfoldable pub bench_report : RecipeContents → List (List ℕ) → List Finished → Report
bench_report recipe inputs done = record {
  form = recipe.format;
  recipe = recipe.digest;
  inputs = input_lines recipe.inputs inputs;
  stages = stage_lines recipe recipe.stages done;
  compare = compare_lines recipe (contents inputs done);
}

-- with a fault at the stage of this number the audit is over; else the next part continues with the finished stage
abbrev pub after_stage : ℕ → Result Finished StageFault → (Finished → AuditAnswer) → AuditAnswer
after_stage number (Err fault) next = Fails number fault
after_stage number (Ok f) next = next f

-- the audit's answer from the stages that are left, after those that are done
abbrev pub bench_from : RecipeContents → List (List ℕ) → List Finished → List Stage → AuditAnswer
bench_from recipe inputs done [] = Completes (bench_report recipe inputs done)
bench_from recipe inputs done (stage ∷ stages) =
    after_stage (suc (length done)) (stage_result recipe inputs done stage) (λ f. bench_from recipe inputs (done ++ f ∷ []) stages)

-- the answer of an audit: a report, or the stage that is not done and why
abbrev pub bench : RecipeContents → List (List ℕ) → AuditAnswer
bench recipe inputs = bench_from recipe inputs [] recipe.stages
