-- The first fault of a report, part by part in the order of docs/reference/verify.md, which says the same for people. A stage's recorded
-- step is judged, not searched for. Programs and files are the bytes that the earlier runs left. Digests are SHA-256 (FIPS 180-4).
use Rattle.std.specs.Prelude.{ℕ, ◌+◌, ◌==◌, Bool, true, false, ◌&&◌, if◌then◌else◌, nat_le, bytes_eq, Option, None, Some, Result, Ok, Err, List, [], ◌∷◌, ◌++◌, length, option_map, sum_by}
use Rattle.ddc_base.specs.Difference.{first_difference}
use Rattle.ddc_base.specs.Results.{◌>>=◌, or_error}
use Rattle.ddc_base.specs.declared.languages.Language.{Language}
use Rattle.ddc_base.specs.declared.languages.Language.TheVariants.{Hex0, Hex1, Hex2, M1}
use Rattle.ddc_base.specs.Limits.{most_artefacts}
use Rattle.mem_files.specs.World.{World}
use Rattle.mem_files.specs.Outputs.{left, out}
use Rattle.guest_run.specs.State.{GuestState}
use Rattle.guest_run.specs.Start.{Refusal, start_of}
use Rattle.guest_run.specs.Run.{End, Exited, end_at}
use Rattle.recipe.specs.declared.contents.RecipeContents.{RecipeContents}
use Rattle.recipe.specs.declared.parts.Input.{Input}
use Rattle.recipe.specs.declared.parts.Stage.{Stage}
use Rattle.report.specs.declared.types.CompareLine.{CompareLine}
use Rattle.report.specs.declared.types.Compared.{Compared}
use Rattle.report.specs.declared.types.Compared.TheVariants.{Equal, Differs}
use Rattle.report.specs.declared.types.InputLine.{InputLine}
use Rattle.report.specs.declared.types.LeftLine.{LeftLine}
use Rattle.report.specs.declared.types.Report.{Report}
use Rattle.report.specs.declared.types.StageLine.{StageLine}
use Rattle.report.specs.Marks.{is_mark_of}
use Rattle.audit_rules.specs.declared.source_check.cause.CheckCause.{CheckCause}
use Rattle.audit_rules.specs.Contents.{Contents, box_of, check_language, check_of, content, program_of}
use Rattle.audit_rules.specs.Stages.{output_of}
use Rattle.verifier.specs.declared.part.Part.{Part}
use Rattle.verifier.specs.declared.part.Part.TheVariants as part

-- ---- header: what the report says of the recipe is what the recipe says

-- both are the same language, or both None
abbrev pub same_language : Option Language → Option Language → Bool
same_language None None = true
same_language (Some Hex0) (Some Hex0) = true
same_language (Some Hex1) (Some Hex1) = true
same_language (Some Hex2) (Some Hex2) = true
same_language (Some M1) (Some M1) = true
same_language _ _ = false

-- a line for each input, with its name, in order
abbrev pub names_inputs : List Input → List InputLine → Bool
names_inputs [] [] = true
names_inputs (input ∷ inputs) (line ∷ lines) = bytes_eq input.name line.name && names_inputs inputs lines
names_inputs _ _ = false

-- a line for each stage, with its name and the language in which its artefact is checked, in order
abbrev pub names_stages : RecipeContents → List Stage → List StageLine → Bool
names_stages recipe [] [] = true
names_stages recipe (stage ∷ stages) (line ∷ lines) =
    bytes_eq stage.name line.name && same_language (check_language recipe stage) line.checked && names_stages recipe stages lines
names_stages recipe _ _ = false

-- a line for each compared stage, with its name and that of the binary, in order
abbrev pub names_compared : List ℕ → List (List ℕ) → List CompareLine → Bool
names_compared binary [] [] = true
names_compared binary (stage ∷ stages) (line ∷ lines) =
    bytes_eq stage line.stage && bytes_eq binary line.binary && names_compared binary stages lines
names_compared binary _ _ = false

unfoldable pub is_header : RecipeContents → Report → Bool
is_header recipe report =
    recipe.format == report.form && bytes_eq recipe.digest.0 report.recipe.0 && names_inputs recipe.inputs report.inputs
    && names_stages recipe recipe.stages report.stages && names_compared recipe.compare.binary recipe.compare.stages report.compare

-- ---- inputs: each has the length and the digest in its line

-- the first wrong input; `number` is that of the first of these inputs. The header is right, so there are as many lines
abbrev pub inputs_fault : ℕ → List (List ℕ) → List InputLine → Option (Part × ℕ)
inputs_fault number (bytes ∷ inputs) (line ∷ lines) =
    if is_mark_of line.mark bytes then inputs_fault (number + 1) inputs lines else Some (part.Input, number)
inputs_fault number _ _ = None

-- ---- stages, each with the artefacts of those before it

-- the files that an exit with 0 leaves; None for any other end
abbrev pub exit_of : Option (End × GuestState) → Option World
exit_of (Some (Exited status, last)) = if status == 0 then Some last.world else None
exit_of _ = None

-- the files left by a run that exits with 0 at exactly this step, from 1 to the limit, both included. A run goes no further than its end,
-- so an end at a step is the only one
abbrev pub left_at : Result GuestState Refusal → ℕ → ℕ → Option World
left_at (Err why) limit step = None
left_at (Ok start) limit step = if nat_le 1 step && nat_le step limit then exit_of (end_at start step) else None

-- a line for each file that is left, with its name and its mark, in the order of the names
abbrev pub names_left : List LeftLine → List (List ℕ × List ℕ) → Bool
names_left [] [] = true
names_left (line ∷ lines) (file ∷ files) = bytes_eq line.name file.0 && is_mark_of line.mark file.1 && names_left lines files
names_left _ _ = false

-- what a run left is what the stage's line says: both streams and all files
unfoldable pub has_left : StageLine → World → Bool
has_left line world =
    is_mark_of line.stream1 world.stream1 && is_mark_of line.stream2 world.stream2 && names_left line.left (left world)

-- the number of bytes of the artefacts so far
abbrev pub size_of : Contents → ℕ
size_of so_far = sum_by length so_far.artefacts

-- the artefact, if it exists, has the mark of the stage's line, and has at most 1,073,741,824 bytes together with the earlier ones
abbrev pub made_as : Contents → StageLine → Option (List ℕ) → Option (List ℕ)
made_as so_far line None = None
made_as so_far line (Some made) =
    if is_mark_of line.made made && nat_le (size_of so_far + length made) most_artefacts then Some made else None

abbrev pub recorded : Contents → Stage → StageLine → World → Option (List ℕ)
recorded so_far stage line world = if has_left line world then made_as so_far line (out world (output_of stage.output)) else None

-- an artefact whose check found nothing wrong
abbrev pub checked_artefact : List ℕ → Option CheckCause → Result (List ℕ) Part
checked_artefact made None = Ok made
checked_artefact made (Some why) = Err part.Assembled

-- the result of replaying a stage's line: the artefact, or the part that fails
unfoldable pub replayed : RecipeContents → Contents → Stage → StageLine → Result (List ℕ) Part
replayed recipe so_far stage line = do
  world ← or_error part.Run (left_at (start_of (program_of recipe so_far stage) (box_of recipe so_far stage)) stage.steps line.steps)
  made ← or_error part.Files (recorded so_far stage line world)
  checked_artefact made (check_of recipe so_far stage made)

-- ---- comparisons: each line is true of the bytes

abbrev pub is_at : ℕ → Option ℕ → Bool
is_at offset None = false
is_at offset (Some found) = offset == found

-- equal bytes of this length; or bytes of these lengths that first differ at this offset, or of which one ends there
abbrev pub says : Compared → List ℕ → List ℕ → Bool
says (Equal count) made binary = bytes_eq made binary && count == length made
says (Differs offset ours theirs) made binary =
    is_at offset (first_difference made binary) && ours == length made && theirs == length binary

-- the number of the first line that is not true; `number` is that of the first of these lines
abbrev pub wrong_line : RecipeContents → Contents → ℕ → List CompareLine → Option ℕ
wrong_line recipe all number [] = None
wrong_line recipe all number (line ∷ lines) =
    if says line.result (content recipe all line.stage) (content recipe all line.binary) then wrong_line recipe all (number + 1) lines
    else Some number

-- its place: the number in a report of form 2; 0 in form 1, which has one line
abbrev pub line_place : ℕ → ℕ → ℕ
line_place form number = if form == 1 then 0 else number

abbrev pub compare_fault : RecipeContents → ℕ → List CompareLine → Contents → Option (Part × ℕ)
compare_fault recipe form lines all = option_map (λ number. (part.Compare, line_place form number)) (wrong_line recipe all 1 lines)

-- ---- all parts

abbrev pub with_artefact : Contents → List ℕ → Contents
with_artefact so_far made = record { inputs = so_far.inputs; artefacts = so_far.artefacts ++ made ∷ [] }

-- the first fault: that of the stage of this number, or else that of the rest
abbrev pub fault_after_stage : ℕ → Result (List ℕ) Part → (List ℕ → Option (Part × ℕ)) → Option (Part × ℕ)
fault_after_stage number (Err part) rest = Some (part, number)
fault_after_stage number (Ok made) rest = rest made

-- the first fault of the stages that are left, and then of the last part, given all contents. The header is right, so there are as many
-- lines
abbrev pub stages_fault : RecipeContents → (Contents → Option (Part × ℕ)) → Contents → List Stage → List StageLine → Option (Part × ℕ)
stages_fault recipe last so_far (stage ∷ stages) (line ∷ lines) =
    fault_after_stage (length so_far.artefacts + 1) (replayed recipe so_far stage line) (λ made. stages_fault recipe last (with_artefact so_far made) stages lines)
stages_fault recipe last so_far _ _ = last so_far

-- the former fault, if there is one, else the latter
abbrev pub first_of_both : Option (Part × ℕ) → Option (Part × ℕ) → Option (Part × ℕ)
first_of_both (Some fault) later = Some fault
first_of_both None later = later

-- the first part of a report that fails, and its place: the number, from 1, of the input or the stage; 0 for the header; `line_place` for a
-- comparison. None if the report is true
unfoldable pub first_fault : RecipeContents → List (List ℕ) → Report → Option (Part × ℕ)
first_fault recipe inputs report =
    if is_header recipe report
    then first_of_both (inputs_fault 1 inputs report.inputs)
    (stages_fault recipe (compare_fault recipe report.form report.compare) (record { inputs = inputs; artefacts = [] }) recipe.stages report.stages)
    else Some (part.Header, 0)
