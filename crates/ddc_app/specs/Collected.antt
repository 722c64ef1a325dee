-- What a person who collects the answers on the segments of all stages has to have seen. docs/reference/many-machines.md says the same for people.
-- Digests are SHA-256 (FIPS 180-4).
use Rattle.std.specs.Prelude.{◌≡◌, ◌⊎◌, ℕ, ◌+◌, ◌≤◌, IsTrue, false, Some, Ok, List, [], ◌∷◌, ◌++◌, length, map}
use Rattle.std.specs.List.{AllZip}
use Rattle.ddc_base.specs.Lines.{line}
use Rattle.ddc_base.specs.declared.outside.Loaded.TheVariants.{Bytes}
use Rattle.ddc_base.specs.Outside.{NamedFiles, loaded}
use Rattle.ddc_base.specs.Limits.{most_artefacts, most_content, most_inputs, most_recipe, most_report}
use Rattle.mem_files.specs.Outputs.{out}
use Rattle.mem_files.specs.World.{World}
use Rattle.guest_run.specs.Program.{ProgramRun}
use Rattle.recipe.specs.declared.contents.RecipeContents.{RecipeContents}
use Rattle.recipe.specs.declared.parts.Stage.{Stage}
use Rattle.recipe.specs.Reading.{recipe_of}
use Rattle.report.specs.Lines.{line_words, lines_text}
use Rattle.report.specs.declared.line.ReportLine.TheVariants.{Header, Recipe, Input, Checked, Compare, End}
use Rattle.report.specs.declared.types.CompareLine.{CompareLine}
use Rattle.audit_rules.specs.Bench.{input_lines}
use Rattle.audit_rules.specs.Contents.{Contents, box_of, check_language, program_of}
use Rattle.audit_rules.specs.Stages.{contents, finished, output_of}
use Rattle.audit_rules.specs.Valid.{IsInputs}
use Rattle.verifier.specs.Faults.{size_of, with_artefact}
use Rattle.verifier.specs.TrueReport.{IsOfSource, IsTrueCompare}
use Rattle.command_plan.specs.Words.{are_two_files}
use Rattle.recipe_plan.specs.Recipes.{is_input, paths}
use Rattle.stage_commands.specs.Checked.{IsRunReported}
use Rattle.stage_commands.specs.Cutting.{CutStart, ends_over}
use Rattle.stage_commands.specs.Texts.{run_record}
use Rattle.ddc_app.specs.Holding.{AreHeld}

-- ---- the run of a stage

-- the stage that `ends` found runs this stage's program, byte for byte, in this stage's execution context. It has this stage's name and output, and no
-- greater limit
pub record RunsTheSame {own name prefix : List ℕ} {files : NamedFiles} (start : CutStart own name prefix files) (recipe : RecipeContents) (before : Contents) (stage : Stage) : Type 0 where
  pub program : program_of start.ready.recipe (contents start.ready.inputs start.ready.done) start.named ≡ program_of recipe before stage
  pub context : box_of start.ready.recipe (contents start.ready.inputs start.ready.done) start.named ≡ box_of recipe before stage
  pub called : start.named.name ≡ stage.name
  pub output : start.named.output ≡ stage.output
  pub limit : start.named.steps ≤ stage.steps

-- the run of a stage was checked in segments: what `ends` printed is the run. `stage_commands::laws::checked_pieces_are_the_run` says so if all segments
-- and both ends were checked. The recipe and the files that `ends` was given may be others than those of the report
pub record IsCheckedInPieces (recipe : RecipeContents) (before : Contents) (stage : Stage) (printed made : List ℕ) : Type 0 where
  pub own : List ℕ
  pub name : List ℕ
  pub prefix : List ℕ
  pub count : ℕ
  pub files : NamedFiles
  pub checked : IsRunReported own name prefix files (ends_over own name prefix count files)
  pub same : RunsTheSame checked.run.start recipe before stage
  pub text : printed ≡ (ends_over own name prefix count files).text
  pub artefact : made ≡ checked.run.made

-- the run of a stage was replayed: it exits with 0 within the stage's limit, and leaves the artefact. The text is what `ends` prints of such a run
pub record IsReplayed (recipe : RecipeContents) (before : Contents) (stage : Stage) (printed made : List ℕ) : Type 0 where
  pub steps : ℕ
  pub world : World
  pub run : ProgramRun (program_of recipe before stage) (box_of recipe before stage) steps 0 world
  pub within : steps ≤ stage.steps
  pub artefact : out world (output_of stage.output) ≡ Some made
  pub text : printed ≡ run_record stage.name (finished steps world made)

-- ---- all stages

-- a stage was seen: its run was replayed, or checked in segments; the artefacts so far have at most 1,073,741,824 bytes; and the artefact of a checked
-- stage is what the check's source stands for
pub record IsSeenStage (recipe : RecipeContents) (before : Contents) (stage : Stage) (printed made : List ℕ) : Type 0 where
  pub run : IsReplayed recipe before stage printed made ⊎ IsCheckedInPieces recipe before stage printed made
  pub together : size_of before + length made ≤ most_artefacts
  pub checked : (name : List ℕ) → stage.check ≡ Some name → IsOfSource recipe before name made

-- each stage was seen, and has one printed text, in order. A stage is given the artefacts of the stages before it, and `all` has those of all stages
abbrev pub AreSeenStages : RecipeContents → Contents → List Stage → List (List ℕ) → Contents → Type 0
AreSeenStages recipe before [] [] all = all ≡ before
AreSeenStages recipe before (stage ∷ stages) (printed ∷ texts) all =
    (made : List ℕ) × IsSeenStage recipe before stage printed made × AreSeenStages recipe (with_artefact before made) stages texts all
AreSeenStages recipe before _ _ all = ⊥

-- all stages were seen, and each comparison is true of the artefacts
pub record AllSeen (recipe : RecipeContents) (inputs : List (List ℕ)) : Type 0 where
  pub printed : List (List ℕ)
  pub all : Contents
  pub stages : AreSeenStages recipe (record { inputs = inputs; artefacts = [] }) recipe.stages printed all
  pub lines : List CompareLine
  pub compares : AllZip (IsTrueCompare recipe all) recipe.compare.stages lines

-- ---- the report

-- what `ends` printed of each stage, and below it the line on the stage's check
abbrev pub blocks_text : RecipeContents → List Stage → List (List ℕ) → List ℕ
blocks_text recipe (stage ∷ stages) (printed ∷ texts) = (printed ++ line (line_words (Checked (check_language recipe stage)))) ++ blocks_text recipe stages texts
blocks_text recipe _ _ = []

-- the report that is put together: the head, a line for each input, the printed texts, and the comparisons
unfoldable pub collected_text : RecipeContents → List (List ℕ) → List (List ℕ) → List CompareLine → List ℕ
collected_text recipe inputs printed lines =
    lines_text (Header recipe.format ∷ Recipe recipe.digest ∷ map Input (input_lines recipe.inputs inputs))
    ++ blocks_text recipe recipe.stages printed
    ++ lines_text (map Compare lines ++ End ∷ [])

-- RECIPE and REPORT name two files. RECIPE holds a recipe that reads, of which REPORT is no input, and the files hold the recipe's inputs, which are
-- bytes within their limits. All stages were seen, and REPORT is byte for byte the report that is put together
pub record Collected (recipe report : List ℕ) (files : NamedFiles) : Type 0 where
  pub two : IsTrue (are_two_files recipe report)
  pub recipe_bytes : List ℕ
  pub recipe_held : loaded files recipe most_recipe ≡ Bytes recipe_bytes
  pub parsed : RecipeContents
  pub recipe_reads : recipe_of recipe_bytes ≡ Ok parsed
  pub apart : is_input parsed report ≡ false
  pub inputs : List (List ℕ)
  pub inputs_held : AreHeld most_content most_inputs files (paths parsed) inputs
  pub given : IsInputs parsed inputs
  pub seen : AllSeen parsed inputs
  pub report_held : loaded files report most_report ≡ Bytes (collected_text parsed inputs seen.printed seen.lines)
