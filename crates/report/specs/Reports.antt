-- Which reports are well-formed, their unique text, and the first fault of any other text. Digests are SHA-256 (FIPS 180-4).
-- docs/reference/report.md is the page for readers.
use Rattle.std.specs.Prelude.{◌≡◌, ℕ, ◌<◌, ◌≤◌, ◌^◌, Bool, true, ◌&&◌, All, List, [], ◌∷◌, ◌++◌, length, map, ◌⊎◌, ◌==◌, if◌then◌else◌, IsTrue}
use Rattle.std.specs.List.{flat_map}
use Rattle.std.specs.Ordering.{nat_cmp, is_lt}
use Rattle.std.specs.Cmp.Lexicographic.{slice_cmp}
pub use Rattle.ddc_base.specs.ByteLists.{AreBytes}
use Rattle.ddc_base.specs.Names.{IsName}
use Rattle.ddc_base.specs.declared.digests.Digest.{Digest}
use Rattle.ddc_base.specs.Limits.{most_names}
use Rattle.report.specs.declared.line.ReportLine.{ReportLine}
use Rattle.report.specs.declared.line.ReportLine.TheVariants.{Header, Recipe, Input, Stage, Stream1, Stream2, Left, Made, Checked, Compare, End}
use Rattle.report.specs.declared.types.Mark.{Mark}
use Rattle.report.specs.declared.types.InputLine.{InputLine}
use Rattle.report.specs.declared.types.LeftLine.{LeftLine}
use Rattle.report.specs.declared.types.StageLine.{StageLine}
use Rattle.report.specs.declared.types.CompareLine.{CompareLine}
use Rattle.report.specs.declared.types.Compared.{Compared}
use Rattle.report.specs.declared.types.Compared.TheVariants.{Equal, Differs}
use Rattle.report.specs.declared.types.Report.{Report}
use Rattle.report.specs.Lines.{line_words, lines_text}
use Rattle.report.specs.Texts.{Texts}

-- ---- the text

-- the block of a stage
abbrev pub stage_block : StageLine → List ReportLine
stage_block stage =
    (Stage stage.name stage.steps ∷ Stream1 stage.stream1 ∷ Stream2 stage.stream2 ∷ map Left stage.left)
    ++ Made stage.made ∷ Checked stage.checked ∷ []

-- the lines above the comparisons
abbrev pub prefix_lines : ℕ → Digest → List InputLine → List StageLine → List ReportLine
prefix_lines form recipe inputs stages = (Header form ∷ Recipe recipe ∷ map Input inputs) ++ flat_map stage_block stages

abbrev pub report_lines : Report → List ReportLine
report_lines report = prefix_lines report.form report.recipe report.inputs report.stages ++ map Compare report.compare ++ End ∷ []

-- the unique text of a report
abbrev pub report_text : Report → List ℕ
report_text report = lines_text (report_lines report)

-- ---- the well-formed reports

abbrev pub IsCount : ℕ → ℕ → ℕ → Type 0
IsCount least most count = (least ≤ count) × (count ≤ most)

pub record IsDigest (digest : Digest) : Type 0 where
  pub count : length digest.0 ≡ 32
  pub bytes : AreBytes digest.0

pub record IsMark (mark : Mark) : Type 0 where
  pub length : mark.length < 2 ^ 64
  pub digest : IsDigest mark.digest

pub record IsInputLine (input : InputLine) : Type 0 where
  pub name : IsName input.name
  pub mark : IsMark input.mark

pub record IsLeft (file : LeftLine) : Type 0 where
  pub count : IsCount 1 255 (length file.name)
  pub bytes : AreBytes file.name
  pub mark : IsMark file.mark

-- each file's name is less than the next one's, by their bytes
abbrev pub ascend : List LeftLine → Bool
ascend [] = true
ascend (file ∷ []) = true
ascend (file ∷ next ∷ files) = is_lt (slice_cmp nat_cmp file.name next.name) && ascend (next ∷ files)

pub record IsStageLine (stage : StageLine) : Type 0 where
  pub name : IsName stage.name
  pub steps : stage.steps < 2 ^ 64
  pub stream1 : IsMark stage.stream1
  pub stream2 : IsMark stage.stream2
  pub count : length stage.left ≤ most_names
  pub each_left : All IsLeft stage.left
  pub ascending : IsTrue (ascend stage.left)
  pub made : IsMark stage.made

-- the offset is at most both lengths, and below one of them
pub record IsDifference (offset ours theirs : ℕ) : Type 0 where
  pub within_ours : offset ≤ ours
  pub within_theirs : offset ≤ theirs
  pub inside_one : (offset < ours) ⊎ (offset < theirs)
  pub small_ours : ours < 2 ^ 64
  pub small_theirs : theirs < 2 ^ 64

abbrev pub IsCompared : Compared → Type 0
IsCompared (Equal length) = length < 2 ^ 64
IsCompared (Differs offset ours theirs) = IsDifference offset ours theirs

pub record IsCompare (compare : CompareLine) : Type 0 where
  pub stage : IsName compare.stage
  pub binary : IsName compare.binary
  pub result : IsCompared compare.result

-- a report's format number is 1 or 2
abbrev pub IsForm : ℕ → Type 0
IsForm form = (form ≡ 1) ⊎ (form ≡ 2)

-- the most comparisons of a report with this format number
abbrev pub most_comparisons : ℕ → ℕ
most_comparisons form = if form == 1 then 1 else 16

pub record IsReport (report : Report) : Type 0 where
  pub form : IsForm report.form
  pub recipe : IsDigest report.recipe
  pub inputs : IsCount 1 256 (length report.inputs)
  pub each_input : All IsInputLine report.inputs
  pub stages : IsCount 1 256 (length report.stages)
  pub each_stage : All IsStageLine report.stages
  pub compares : IsCount 1 (most_comparisons report.form) (length report.compare)
  pub each_compare : All IsCompare report.compare

-- the texts of reports
abbrev pub report_texts : Texts ReportLine Report
report_texts = record { Is = IsReport; lines = report_lines; words = line_words }
