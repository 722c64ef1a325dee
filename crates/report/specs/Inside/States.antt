-- Which line may follow which. To read the promises, this file is not needed.
use Rattle.std.specs.Prelude.{ℕ, Bool, true, ◌-◌, nat_lt, List, [], ◌∷◌, ◌++◌, length, slice_get, Option, Some, None, if◌then◌else◌}
use Rattle.std.specs.Ordering.{nat_cmp, is_lt}
use Rattle.std.specs.Cmp.Lexicographic.{slice_cmp}
use Rattle.ddc_base.specs.declared.languages.Language.{Language}
use Rattle.ddc_base.specs.Limits.{most_names}
use Rattle.report.specs.declared.line.ReportLine.{ReportLine}
use Rattle.report.specs.declared.line.ReportLine.TheVariants.{Header, Recipe, Input, Stage, Stream1, Stream2, Left, Made, Checked, Compare, End}
use Rattle.report.specs.declared.types.Mark.{Mark}
use Rattle.report.specs.declared.types.LeftLine.{LeftLine}
use Rattle.report.specs.declared.types.StageLine.{StageLine}
use Rattle.report.specs.declared.state.Prefix.{Prefix}
use Rattle.report.specs.Reports.{most_comparisons}
use Rattle.report.specs.declared.state.Opened.{Opened}
use Rattle.report.specs.declared.state.State.{State}
use Rattle.report.specs.declared.state.State.TheVariants.{Start, Titled, Inputs, Named, Heard, Leaving, Closing, Stages, Compared, Ended}

abbrev pub is_after : Option LeftLine → List ℕ → Bool
is_after None name = true
is_after (Some file) name = is_lt (slice_cmp nat_cmp file.name name)

-- the name is greater than the last of these
abbrev pub follows : List LeftLine → List ℕ → Bool
follows left name = is_after (slice_get left (length left - 1)) name

-- a whole block
abbrev pub closed : Opened → Mark → Option Language → StageLine
closed stage made checked = record {
  name = stage.name;
  steps = stage.steps;
  stream1 = stage.stream1;
  stream2 = stage.stream2;
  left = stage.left;
  made = made;
  checked = checked;
}

-- one more stage
abbrev pub with_stage : Prefix → StageLine → Prefix
with_stage prefix stage = record prefix { stages = prefix.stages ++ stage ∷ [] }

-- the state after one more line
unfoldable pub step : State → ReportLine → Option State
step Start (Header form) = Some (Titled form)
step (Titled form) (Recipe recipe) = Some (Inputs form recipe [])
step (Inputs form recipe inputs) (Input input) =
    if nat_lt (length inputs) 256 then Some (Inputs form recipe (inputs ++ input ∷ [])) else None
step (Inputs form recipe inputs) (Stage name steps) =
    if nat_lt 0 (length inputs) then Some (Named (record { form = form; recipe = recipe; inputs = inputs; stages = [] }) name steps) else None
step (Named prefix name steps) (Stream1 mark) = Some (Heard prefix (record { name = name; steps = steps; stream1 = mark }))
step (Heard prefix stage) (Stream2 mark) =
    Some (Leaving prefix (record { name = stage.name; steps = stage.steps; stream1 = stage.stream1; stream2 = mark; left = [] }))
step (Leaving prefix stage) (Left file) =
    if nat_lt (length stage.left) most_names
    then (if follows stage.left file.name then Some (Leaving prefix (record stage { left = stage.left ++ file ∷ [] })) else None)
    else None
step (Leaving prefix stage) (Made mark) = Some (Closing prefix stage mark)
step (Closing prefix stage made) (Checked checked) = Some (Stages (with_stage prefix (closed stage made checked)))
step (Stages prefix) (Stage name steps) = if nat_lt (length prefix.stages) 256 then Some (Named prefix name steps) else None
step (Stages prefix) (Compare compare) =
    Some (Compared (record { form = prefix.form; recipe = prefix.recipe; inputs = prefix.inputs; stages = prefix.stages; compare = compare ∷ [] }))
step (Compared report) (Compare compare) =
    if nat_lt (length report.compare) (most_comparisons report.form)
    then Some (Compared (record report { compare = report.compare ++ compare ∷ [] }))
    else None
step (Compared report) End = Some (Ended report)
step _ _ = None
