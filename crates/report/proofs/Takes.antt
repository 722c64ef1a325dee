-- Each line that a state takes stands at the end of its lines.
use Rattle.std.proofs.Common.{◌≡◌, cond, ltb, List, [], ◌∷◌, ◌++◌, length, map, Some, None, refl, sym, ap, ◌∙◌, append_assoc}
use Rattle.std.specs.List.{flat_map}
use Rattle.std.proofs.lemmas.Grind.{flat_map-append}
use Rattle.std.proofs.lemmas.List.{append-nil, map_push}
use Rattle.ddc_base.specs.Limits.{most_names}
use Rattle.report.specs.declared.line.ReportLine.{ReportLine}
use Rattle.report.specs.declared.line.ReportLine.TheVariants.{Header, Recipe, Input, Stage, Stream1, Stream2, Left, Made, Checked, Compare, End}
use Rattle.report.specs.declared.types.InputLine.{InputLine}
use Rattle.report.specs.declared.types.StageLine.{StageLine}
use Rattle.report.specs.declared.state.Prefix.{Prefix}
use Rattle.report.specs.declared.state.Opened.{Opened}
use Rattle.report.specs.declared.state.State.{State}
use Rattle.report.specs.declared.state.State.TheVariants.{Start, Titled, Inputs, Named, Heard, Leaving, Closing, Stages, Compared, Ended}
use Rattle.report.specs.Inside.States.{step, follows, closed, with_stage}
use Rattle.report.specs.Reports.{stage_block, prefix_lines, report_lines, most_comparisons}
use Rattle.report.proofs.Cuts.{if_some, same_some}

abbrev pub prefix_of : Prefix → List ReportLine
prefix_of prefix = prefix_lines prefix.form prefix.recipe prefix.inputs prefix.stages

abbrev pub opened_lines : Opened → List ReportLine
opened_lines stage = Stage stage.name stage.steps ∷ Stream1 stage.stream1 ∷ Stream2 stage.stream2 ∷ map Left stage.left

-- the lines that a state has taken
abbrev pub so_far : State → List ReportLine
so_far Start = []
so_far (Titled form) = Header form ∷ []
so_far (Inputs form recipe inputs) = Header form ∷ Recipe recipe ∷ map Input inputs
so_far (Named prefix name steps) = prefix_of prefix ++ Stage name steps ∷ []
so_far (Heard prefix stage) = prefix_of prefix ++ Stage stage.name stage.steps ∷ Stream1 stage.stream1 ∷ []
so_far (Leaving prefix stage) = prefix_of prefix ++ opened_lines stage
so_far (Closing prefix stage made) = prefix_of prefix ++ (opened_lines stage ++ Made made ∷ [])
so_far (Stages prefix) = prefix_of prefix
so_far (Compared report) = prefix_lines report.form report.recipe report.inputs report.stages ++ map Compare report.compare
so_far (Ended report) = report_lines report

-- a state known by its lines
grows : (s t : State) (line : ReportLine) → Some t ≡ Some s → (ls : List ReportLine) → so_far t ≡ ls ++ line ∷ [] → so_far s ≡ ls ++ line ∷ []
grows s t line e ls is = ap so_far (sym (same_some t s e)) ∙ is

prefix_push : (prefix : Prefix) (stage : StageLine) → prefix_of (with_stage prefix stage) ≡ prefix_of prefix ++ stage_block stage
prefix_push prefix stage =
    let ls = Header prefix.form ∷ Recipe prefix.recipe ∷ map Input prefix.inputs in
    ap (λ (more : List ReportLine). ls ++ more) (flat_map-append stage_block prefix.stages (stage ∷ []) ∙ ap (λ (more : List ReportLine). flat_map stage_block prefix.stages ++ more) (append-nil (stage_block stage)))
    ∙ sym (append_assoc ls (flat_map stage_block prefix.stages) (stage_block stage))

no_stages : (form : _) (recipe : _) (inputs : List InputLine) → prefix_lines form recipe inputs [] ≡ Header form ∷ Recipe recipe ∷ map Input inputs
no_stages form recipe inputs = append-nil (Header form ∷ Recipe recipe ∷ map Input inputs)

pub step_takes : (s : State) (line : ReportLine) (t : State) → step s line ≡ Some t → so_far t ≡ so_far s ++ line ∷ []
unfolding step
step_takes Start (Header form) t e = grows t (Titled form) (Header form) e [] refl
step_takes (Titled form) (Recipe recipe) t e = grows t (Inputs form recipe []) (Recipe recipe) e (Header form ∷ []) refl
step_takes (Inputs form recipe inputs) (Input input) t e =
    let p = if_some (ltb (length inputs) 256) (Some (Inputs form recipe (inputs ++ input ∷ []))) t e in
    grows t (Inputs form recipe (inputs ++ input ∷ [])) (Input input) p.1 (Header form ∷ Recipe recipe ∷ map Input inputs) (ap (λ (ls : List ReportLine). Header form ∷ Recipe recipe ∷ ls) (map_push Input inputs input))
step_takes (Inputs form recipe inputs) (Stage name steps) t e =
    let prefix : Prefix = record { form = form; recipe = recipe; inputs = inputs; stages = [] } in
    let p = if_some (ltb 0 (length inputs)) (Some (Named prefix name steps)) t e in
    grows t (Named prefix name steps) (Stage name steps) p.1 (Header form ∷ Recipe recipe ∷ map Input inputs) (ap (λ (ls : List ReportLine). ls ++ Stage name steps ∷ []) (no_stages form recipe inputs))
step_takes (Named prefix name steps) (Stream1 mark) t e =
    grows t (Heard prefix (record { name = name; steps = steps; stream1 = mark })) (Stream1 mark) e (prefix_of prefix ++ Stage name steps ∷ []) (sym (append_assoc (prefix_of prefix) (Stage name steps ∷ []) (Stream1 mark ∷ [])))
step_takes (Heard prefix stage) (Stream2 mark) t e =
    grows t (Leaving prefix (record { name = stage.name; steps = stage.steps; stream1 = stage.stream1; stream2 = mark; left = [] })) (Stream2 mark) e
    (prefix_of prefix ++ Stage stage.name stage.steps ∷ Stream1 stage.stream1 ∷ [])
    (sym (append_assoc (prefix_of prefix) (Stage stage.name stage.steps ∷ Stream1 stage.stream1 ∷ []) (Stream2 mark ∷ [])))
step_takes (Leaving prefix stage) (Left file) t e =
    let next = Leaving prefix (record stage { left = stage.left ++ file ∷ [] }) in
    let p = if_some (ltb (length stage.left) most_names) (cond (follows stage.left file.name) (Some next) None) t e in
    let q = if_some (follows stage.left file.name) (Some next) t p.1 in
    grows t next (Left file) q.1 (prefix_of prefix ++ opened_lines stage)
    (ap (λ (ls : List ReportLine). prefix_of prefix ++ Stage stage.name stage.steps ∷ Stream1 stage.stream1 ∷ Stream2 stage.stream2 ∷ ls) (map_push Left stage.left file) ∙ sym (append_assoc (prefix_of prefix) (opened_lines stage) (Left file ∷ [])))
step_takes (Leaving prefix stage) (Made mark) t e =
    grows t (Closing prefix stage mark) (Made mark) e (prefix_of prefix ++ opened_lines stage) (sym (append_assoc (prefix_of prefix) (opened_lines stage) (Made mark ∷ [])))
step_takes (Closing prefix stage made) (Checked checked) t e =
    let block = closed stage made checked in
    grows t (Stages (with_stage prefix block)) (Checked checked) e (prefix_of prefix ++ (opened_lines stage ++ Made made ∷ []))
    (prefix_push prefix block ∙ ap (λ (ls : List ReportLine). prefix_of prefix ++ ls) (sym (append_assoc (opened_lines stage) (Made made ∷ []) (Checked checked ∷ [])))
    ∙ sym (append_assoc (prefix_of prefix) (opened_lines stage ++ Made made ∷ []) (Checked checked ∷ [])))
step_takes (Stages prefix) (Stage name steps) t e =
    let p = if_some (ltb (length prefix.stages) 256) (Some (Named prefix name steps)) t e in
    grows t (Named prefix name steps) (Stage name steps) p.1 (prefix_of prefix) refl
step_takes (Stages prefix) (Compare compare) t e =
    grows t (Compared (record { form = prefix.form; recipe = prefix.recipe; inputs = prefix.inputs; stages = prefix.stages; compare = compare ∷ [] })) (Compare compare) e (prefix_of prefix) refl
step_takes (Compared report) (Compare compare) t e =
    let next = Compared (record report { compare = report.compare ++ compare ∷ [] }) in
    let prefix = prefix_lines report.form report.recipe report.inputs report.stages in
    let p = if_some (ltb (length report.compare) (most_comparisons report.form)) (Some next) t e in
    grows t next (Compare compare) p.1 (prefix ++ map Compare report.compare)
    (ap (λ (ls : List ReportLine). prefix ++ ls) (map_push Compare report.compare compare) ∙ sym (append_assoc prefix (map Compare report.compare) (Compare compare ∷ [])))
step_takes (Compared report) End t e = grows t (Ended report) End e (prefix_lines report.form report.recipe report.inputs report.stages ++ map Compare report.compare) refl
step_takes _ _ t e = absurd cc
