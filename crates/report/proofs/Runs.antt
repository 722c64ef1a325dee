-- The lines of a report, taken one after the other, lead to its end.
use Rattle.std.proofs.Common.{◌≡◌, ℕ, ◌+◌, ◌≤◌, true, List, [], ◌∷◌, ◌++◌, length, map, Option, Some, sym, ap, ◌∙◌, append_assoc, arith, length-append}
use Rattle.std.specs.Prelude.{All}
use Rattle.std.specs.List.{flat_map}
use Rattle.std.proofs.lemmas.List.{append-nil}
use Rattle.std.proofs.lemmas.List.Elements.{All-head, All-tail}
use Rattle.ddc_base.specs.declared.digests.Digest.{Digest}
use Rattle.ddc_base.specs.Limits.{most_names}
use Rattle.report.specs.declared.line.ReportLine.{ReportLine}
use Rattle.report.specs.declared.line.ReportLine.TheVariants.{Input, Stream1, Stream2, Left, Made, Checked, Compare, End}
use Rattle.report.specs.declared.types.InputLine.{InputLine}
use Rattle.report.specs.declared.types.LeftLine.{LeftLine}
use Rattle.report.specs.declared.types.StageLine.{StageLine}
use Rattle.report.specs.declared.types.CompareLine.{CompareLine}
use Rattle.report.specs.declared.types.Report.{Report}
use Rattle.report.specs.declared.state.Prefix.{Prefix}
use Rattle.report.specs.declared.state.Opened.{Opened}
use Rattle.report.specs.declared.state.State.{State}
use Rattle.report.specs.declared.state.State.TheVariants.{Start, Inputs, Named, Leaving, Stages, Compared, Ended}
use Rattle.report.specs.Inside.States.{step, with_stage}
use Rattle.report.proofs.Ascending.{follows_last}
use Rattle.report.proofs.Counts.{below}
use Rattle.report.proofs.LineByLine.Rules.{runs, runs_then}
use Rattle.report.specs.Reports.{stage_block, report_lines, ascend, most_comparisons, IsCount, IsStageLine, IsReport}

-- the state after the lines
abbrev run : State → List ReportLine → Option State
run state lines = runs step state lines

-- two runs, one after the other
then : (s t : State) (prefix more : List ReportLine) → run s prefix ≡ Some t → run s (prefix ++ more) ≡ run t more
then s t prefix more first = runs_then step s t prefix more first

run_inputs : (form : ℕ) (recipe : Digest) (prefix more : List InputLine) → length prefix + length more ≤ 256 → run (Inputs form recipe prefix) (map Input more) ≡ Some (Inputs form recipe (prefix ++ more))
unfolding step
run_inputs form recipe prefix [] few = ap (λ (inputs : List InputLine). Some (Inputs form recipe inputs)) (sym (append-nil prefix))
run_inputs form recipe prefix (input ∷ more) few =
    rw (below (length prefix) 256 (omega arith)) (run_inputs form recipe (prefix ++ input ∷ []) more (omega (arith, length-append prefix (input ∷ [])))
    ∙ ap (λ (inputs : List InputLine). Some (Inputs form recipe inputs)) (append_assoc prefix (input ∷ []) more))

run_left : (prefix : Prefix) (stage : Opened) (more : List LeftLine) → length stage.left + length more ≤ most_names → ascend (stage.left ++ more) ≡ true
    → run (Leaving prefix stage) (map Left more) ≡ Some (Leaving prefix (record stage { left = stage.left ++ more }))
unfolding step
run_left prefix stage [] few ascending = ap (λ (left : List LeftLine). Some (Leaving prefix (record stage { left = left }))) (sym (append-nil stage.left))
run_left prefix stage (file ∷ more) few ascending =
    rw (below (length stage.left) most_names (omega arith), follows_last stage.left file more ascending)
    (run_left prefix (record stage { left = stage.left ++ file ∷ [] }) more (omega (arith, length-append stage.left (file ∷ []))) (rw (append_assoc stage.left (file ∷ []) more) ascending)
    ∙ ap (λ (left : List LeftLine). Some (Leaving prefix (record stage { left = left }))) (append_assoc stage.left (file ∷ []) more))

-- a block after its first line
run_block : (prefix : Prefix) (stage : StageLine) → IsStageLine stage
    → run (Named prefix stage.name stage.steps) (Stream1 stage.stream1 ∷ Stream2 stage.stream2 ∷ map Left stage.left ++ Made stage.made ∷ Checked stage.checked ∷ [])
    ≡ Some (Stages (with_stage prefix stage))
unfolding step
run_block prefix stage is =
    let opened : Opened = record { name = stage.name; steps = stage.steps; stream1 = stage.stream1; stream2 = stage.stream2; left = [] } in
    then (Leaving prefix opened) (Leaving prefix (record opened { left = stage.left })) (map Left stage.left) (Made stage.made ∷ Checked stage.checked ∷ [])
    (run_left prefix opened stage.left (omega (arith, is.count)) is.ascending)

run_stages : (prefix : Prefix) (more : List StageLine) → length prefix.stages + length more ≤ 256 → All IsStageLine more
    → run (Stages prefix) (flat_map stage_block more) ≡ Some (Stages (record prefix { stages = prefix.stages ++ more }))
unfolding step
run_stages prefix [] few each = ap (λ (stages : List StageLine). Some (Stages (record prefix { stages = stages }))) (sym (append-nil prefix.stages))
run_stages prefix (stage ∷ more) few each =
    let opened : run (Stages prefix) (stage_block stage) ≡ Some (Stages (with_stage prefix stage)) =
    rw (below (length prefix.stages) 256 (omega arith)) (run_block prefix stage (All-head IsStageLine stage more each)) in
    then (Stages prefix) (Stages (with_stage prefix stage)) (stage_block stage) (flat_map stage_block more) opened
    ∙ run_stages (with_stage prefix stage) more (omega (arith, length-append prefix.stages (stage ∷ []))) (All-tail IsStageLine stage more each)
    ∙ ap (λ (stages : List StageLine). Some (Stages (record prefix { stages = stages }))) (append_assoc prefix.stages (stage ∷ []) more)

-- the blocks, the first of which ends the inputs
run_blocks : (form : ℕ) (recipe : Digest) (inputs : List InputLine) (stages : List StageLine) → 1 ≤ length inputs → 1 ≤ length stages → length stages ≤ 256 → All IsStageLine stages
    → run (Inputs form recipe inputs) (flat_map stage_block stages) ≡ Some (Stages (record { form = form; recipe = recipe; inputs = inputs; stages = stages }))
unfolding step
run_blocks form recipe inputs [] some one few each = absurd (omega arith)
run_blocks form recipe inputs (stage ∷ more) some one few each =
    let prefix : Prefix = record { form = form; recipe = recipe; inputs = inputs; stages = [] } in
    let opened : run (Inputs form recipe inputs) (stage_block stage) ≡ Some (Stages (with_stage prefix stage)) =
    rw (below 0 (length inputs) (omega arith)) (run_block prefix stage (All-head IsStageLine stage more each)) in
    then (Inputs form recipe inputs) (Stages (with_stage prefix stage)) (stage_block stage) (flat_map stage_block more) opened
    ∙ run_stages (with_stage prefix stage) more (omega arith) (All-tail IsStageLine stage more each)

-- the comparisons after the first one
run_compares : (report : Report) (more : List CompareLine) → length report.compare + length more ≤ most_comparisons report.form
    → run (Compared report) (map Compare more) ≡ Some (Compared (record report { compare = report.compare ++ more }))
unfolding step
run_compares report [] few = ap (λ (compares : List CompareLine). Some (Compared (record report { compare = compares }))) (sym (append-nil report.compare))
run_compares report (compare ∷ more) few =
    rw (below (length report.compare) (most_comparisons report.form) (omega (arith, few)))
    (run_compares (record report { compare = report.compare ++ compare ∷ [] }) more (omega (arith, few, length-append report.compare (compare ∷ [])))
    ∙ ap (λ (compares : List CompareLine). Some (Compared (record report { compare = compares }))) (append_assoc report.compare (compare ∷ []) more))

-- all of them
run_compared : (report : Report) (compares : List CompareLine) → IsCount 1 (most_comparisons report.form) (length compares)
    → run (Stages (record { form = report.form; recipe = report.recipe; inputs = report.inputs; stages = report.stages })) (map Compare compares)
    ≡ Some (Compared (record report { compare = compares }))
unfolding step
run_compared report [] count = absurd (omega (arith, count.0))
run_compared report (compare ∷ more) count = run_compares (record report { compare = compare ∷ [] }) more (omega (arith, count.1))

pub run_report : (report : Report) → IsReport report → run Start (report_lines report) ≡ Some (Ended report)
unfolding step
run_report report is =
    let inputs = map Input report.inputs in
    let stages = flat_map stage_block report.stages in
    let compares = map Compare report.compare in
    let start = Inputs report.form report.recipe [] in
    let prefix = Stages (record { form = report.form; recipe = report.recipe; inputs = report.inputs; stages = report.stages }) in
    let read : run start inputs ≡ Some (Inputs report.form report.recipe report.inputs) = run_inputs report.form report.recipe [] report.inputs (omega (arith, is.inputs.1)) in
    let before : run start (inputs ++ stages) ≡ Some prefix =
    then start (Inputs report.form report.recipe report.inputs) inputs stages read
    ∙ run_blocks report.form report.recipe report.inputs report.stages is.inputs.0 is.stages.0 is.stages.1 is.each_stage in
    let compared : run start ((inputs ++ stages) ++ compares) ≡ Some (Compared report) = then start prefix (inputs ++ stages) compares before ∙ run_compared report report.compare is.compares in
    then start (Compared report) ((inputs ++ stages) ++ compares) (End ∷ []) compared
