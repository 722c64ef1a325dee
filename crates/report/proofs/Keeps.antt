-- What each state keeps of the rules of a report, and how it goes on to one.
use Rattle.std.proofs.Common.{◌≡◌, ℕ, suc, ◌<◌, ◌≤◌, ◌^◌, Bool, true, false, cond, ltb, lit<, List, [], ◌∷◌, ◌++◌, length, map, Some, None, refl, subst, arith, inl}
use Rattle.std.specs.Prelude.{◌==◌, All}
use Rattle.std.specs.List.{flat_map}
use Rattle.std.proofs.lemmas.Bool.Decides.{Decides-ltb}
use Rattle.std.proofs.lemmas.List.Elements.{All-append, All-cons, All-head, All-map, All-nil, All-push, All-tail}
use Rattle.ddc_base.specs.Names.{is_name, IsName}
use Rattle.ddc_base.specs.declared.digests.Digest.{Digest}
use Rattle.ddc_base.specs.Limits.{most_names}
use Rattle.report.specs.declared.line.ReportLine.{ReportLine}
use Rattle.report.specs.declared.line.ReportLine.TheVariants.{Header, Recipe, Input, Stage, Stream1, Stream2, Left, Made, Checked, Compare, End}
use Rattle.report.specs.declared.types.Mark.{Mark}
use Rattle.report.specs.declared.types.InputLine.{InputLine}
use Rattle.report.specs.declared.types.StageLine.{StageLine}
use Rattle.report.specs.declared.types.CompareLine.{CompareLine}
use Rattle.report.specs.declared.types.Compared.TheVariants.{Equal}
use Rattle.report.specs.declared.types.Report.{Report}
use Rattle.report.specs.declared.state.BlockPrefix.{BlockPrefix}
use Rattle.report.specs.declared.state.Prefix.{Prefix}
use Rattle.report.specs.declared.state.Opened.{Opened}
use Rattle.report.specs.declared.state.State.{State}
use Rattle.report.specs.declared.state.State.TheVariants.{Start, Titled, Inputs, Named, Heard, Leaving, Closing, Stages, Compared, Ended}
use Rattle.report.specs.Inside.States.{step, follows, closed, with_stage}
use Rattle.report.specs.Reports.{stage_block, report_lines, ascend, most_comparisons, IsCount, IsForm, IsDigest, IsMark, IsInputLine, IsLeft, IsStageLine, IsCompare, IsReport}
use Rattle.report.proofs.Ascending.{ascend_push}
use Rattle.report.proofs.Counts.{grown, is_below}
use Rattle.report.proofs.Cuts.{if_some, same_some}
use Rattle.report.proofs.LineByLine.Rules.{Finishes, finishes_by, finished_by}
use Rattle.report.proofs.Marks.{some_digest, some_digest_is, some_mark, some_mark_is}
use Rattle.report.proofs.LineTexts.{IsLine}
use Rattle.report.proofs.Takes.{so_far, step_takes}

pub record IsPrefix (prefix : Prefix) : Type 0 where
  pub form : IsForm prefix.form
  pub recipe : IsDigest prefix.recipe
  pub inputs : IsCount 1 256 (length prefix.inputs)
  pub each_input : All IsInputLine prefix.inputs
  pub stages : length prefix.stages ≤ 256
  pub each_stage : All IsStageLine prefix.stages

pub record IsOpened (stage : Opened) : Type 0 where
  pub name : IsName stage.name
  pub steps : stage.steps < 2 ^ 64
  pub stream1 : IsMark stage.stream1
  pub stream2 : IsMark stage.stream2
  pub count : length stage.left ≤ most_names
  pub each_left : All IsLeft stage.left
  pub ascending : ascend stage.left ≡ true

-- a report with room for one more stage
pub record HasCapacity (prefix : Prefix) : Type 0 where
  pub fits : IsPrefix prefix
  pub capacity : length prefix.stages < 256

-- what a state keeps
abbrev pub Good : State → Type 0
Good Start = Unit {0}
Good (Titled form) = IsForm form
Good (Inputs form recipe inputs) = IsDigest recipe × (length inputs ≤ 256) × All IsInputLine inputs × IsForm form
Good (Named prefix name steps) = HasCapacity prefix × IsName name × (steps < 2 ^ 64)
Good (Heard prefix stage) = HasCapacity prefix × IsName stage.name × (stage.steps < 2 ^ 64) × IsMark stage.stream1
Good (Leaving prefix stage) = HasCapacity prefix × IsOpened stage
Good (Closing prefix stage made) = HasCapacity prefix × IsOpened stage × IsMark made
Good (Stages prefix) = IsPrefix prefix × (1 ≤ length prefix.stages)
Good (Compared report) = IsReport report
Good (Ended report) = IsReport report

with_reserved : (prefix : Prefix) (stage : StageLine) → HasCapacity prefix → IsStageLine stage → Good (Stages (with_stage prefix stage))
with_reserved prefix stage has is = (
  record {
    form = has.fits.form;
    recipe = has.fits.recipe;
    inputs = has.fits.inputs;
    each_input = has.fits.each_input;
    stages = omega (arith, has.capacity, grown prefix.stages stage);
    each_stage = All-push IsStageLine prefix.stages stage has.fits.each_stage is;
  },
  omega (arith, grown prefix.stages stage),
)

-- there is room for one comparison in every form
some_compared : (form : ℕ) → 1 ≤ most_comparisons form
some_compared form = by_test (form == 1)
  where
    by_test : (t : Bool) → 1 ≤ cond t 1 16
    by_test true = omega arith
    by_test false = omega arith

pub step_keeps : (s : State) (l : ReportLine) (t : State) → Good s → IsLine l → step s l ≡ Some t → Good t
unfolding step
step_keeps Start (Header form) t good is e = subst Good (same_some (Titled form) t e) is
step_keeps (Titled form) (Recipe recipe) t good is e = subst Good (same_some (Inputs form recipe []) t e) (is, omega arith, All-nil IsInputLine, good)
step_keeps (Inputs form recipe inputs) (Input input) t good is e =
    let p = if_some (ltb (length inputs) 256) (Some (Inputs form recipe (inputs ++ input ∷ []))) t e in
    subst Good (same_some (Inputs form recipe (inputs ++ input ∷ [])) t p.1) (good.0, omega (arith, is_below _ _ p.0, grown inputs input), All-push IsInputLine inputs input good.2 is, good.3)
step_keeps (Inputs form recipe inputs) (Stage name steps) t good is e =
    let prefix : Prefix = record { form = form; recipe = recipe; inputs = inputs; stages = [] } in
    let p = if_some (ltb 0 (length inputs)) (Some (Named prefix name steps)) t e in
    let some : 1 ≤ length inputs = omega (arith, is_below _ _ p.0) in
    let fits : IsPrefix prefix = record { form = good.3; recipe = good.0; inputs = (some, good.1); each_input = good.2; stages = omega arith; each_stage = All-nil IsStageLine } in
    subst Good (same_some (Named prefix name steps) t p.1) (record { fits = fits; capacity = lit< tt }, is.0, is.1)
step_keeps (Named prefix name steps) (Stream1 mark) t good is e =
    subst Good (same_some (Heard prefix (record { name = name; steps = steps; stream1 = mark })) t e) (good.0, good.1, good.2, is)
step_keeps (Heard prefix stage) (Stream2 mark) t good is e =
    let opened : Opened = record { name = stage.name; steps = stage.steps; stream1 = stage.stream1; stream2 = mark; left = [] } in
    let fits : IsOpened opened = record { name = good.1; steps = good.2; stream1 = good.3; stream2 = is; count = omega arith; each_left = All-nil IsLeft; ascending = refl } in
    subst Good (same_some (Leaving prefix opened) t e) (good.0, fits)
step_keeps (Leaving prefix stage) (Left file) t good is e =
    let next : Opened = record stage { left = stage.left ++ file ∷ [] } in
    let p = if_some (ltb (length stage.left) most_names) (cond (follows stage.left file.name) (Some (Leaving prefix next)) None) t e in
    let q = if_some (follows stage.left file.name) (Some (Leaving prefix next)) t p.1 in
    let fits : IsOpened next = record {
      name = good.1.name;
      steps = good.1.steps;
      stream1 = good.1.stream1;
      stream2 = good.1.stream2;
      count = omega (arith, is_below _ _ p.0, grown stage.left file);
      each_left = All-push IsLeft stage.left file good.1.each_left is;
      ascending = ascend_push stage.left file good.1.ascending q.0;
    } in
    subst Good (same_some (Leaving prefix next) t q.1) (good.0, fits)
step_keeps (Leaving prefix stage) (Made mark) t good is e = subst Good (same_some (Closing prefix stage mark) t e) (good.0, good.1, is)
step_keeps (Closing prefix stage made) (Checked checked) t good is e =
    let fits : IsStageLine (closed stage made checked) = record {
      name = good.1.name;
      steps = good.1.steps;
      stream1 = good.1.stream1;
      stream2 = good.1.stream2;
      count = good.1.count;
      each_left = good.1.each_left;
      ascending = good.1.ascending;
      made = good.2;
    } in
    subst Good (same_some (Stages (with_stage prefix (closed stage made checked))) t e) (with_reserved prefix (closed stage made checked) good.0 fits)
step_keeps (Stages prefix) (Stage name steps) t good is e =
    let p = if_some (ltb (length prefix.stages) 256) (Some (Named prefix name steps)) t e in
    subst Good (same_some (Named prefix name steps) t p.1) (record { fits = good.0; capacity = is_below _ _ p.0 }, is.0, is.1)
step_keeps (Stages prefix) (Compare compare) t good is e =
    let report : Report = record { form = prefix.form; recipe = prefix.recipe; inputs = prefix.inputs; stages = prefix.stages; compare = compare ∷ [] } in
    subst Good (same_some (Compared report) t e)
    (record {
      form = good.0.form;
      recipe = good.0.recipe;
      inputs = good.0.inputs;
      each_input = good.0.each_input;
      stages = (good.1, good.0.stages);
      each_stage = good.0.each_stage;
      compares = (omega arith, some_compared prefix.form);
      each_compare = All-cons IsCompare compare [] is (All-nil IsCompare);
    })
step_keeps (Compared report) (Compare compare) t good is e =
    let next : Report = record report { compare = report.compare ++ compare ∷ [] } in
    let p = if_some (ltb (length report.compare) (most_comparisons report.form)) (Some (Compared next)) t e in
    subst Good (same_some (Compared next) t p.1)
    (record {
      form = good.form;
      recipe = good.recipe;
      inputs = good.inputs;
      each_input = good.each_input;
      stages = good.stages;
      each_stage = good.each_stage;
      compares = (omega (arith, grown report.compare compare), omega (arith, is_below _ _ p.0, grown report.compare compare));
      each_compare = All-push IsCompare report.compare compare good.each_compare is;
    })
step_keeps (Compared report) End t good is e = subst Good (same_some (Ended report) t e) good
step_keeps _ _ t good is e = absurd cc

-- ---- each state goes on to a report

abbrev pub Finished : State → Type 0
Finished s = Finishes IsReport report_lines (so_far s)

-- by one more line
by : (s : State) (l : ReportLine) (t : State) → IsLine l → step s l ≡ Some t → Good s → (Good t → Finished t) → Finished s
by s l t fits stepped good later = finishes_by (so_far s) l (so_far t) (step_takes s l t stepped) (later (step_keeps s l t good fits stepped))

some_name : List ℕ
some_name = 97 ∷ []

some_name_is : IsName some_name
unfolding is_name some_name
some_name_is = refl

some_compare : CompareLine
some_compare = record { stage = some_name; binary = some_name; result = Equal 0 }

some_compare_is : IsCompare some_compare
unfolding some_compare
some_compare_is = record { stage = some_name_is; binary = some_name_is; result = lit< tt }

from_ended : (report : Report) → Good (Ended report) → Finished (Ended report)
from_ended report good = finished_by (so_far (Ended report)) report good refl

from_compared : (report : Report) → Good (Compared report) → Finished (Compared report)
unfolding step
from_compared report good = by (Compared report) End (Ended report) tt refl good (from_ended report)

from_stages : (prefix : Prefix) → Good (Stages prefix) → Finished (Stages prefix)
unfolding step
from_stages prefix good = by (Stages prefix) (Compare some_compare) _ some_compare_is refl good (from_compared _)

from_closing : (prefix : Prefix) (stage : Opened) (made : Mark) → Good (Closing prefix stage made) → Finished (Closing prefix stage made)
unfolding step
from_closing prefix stage made good = by (Closing prefix stage made) (Checked None) _ tt refl good (from_stages _)

from_leaving : (prefix : Prefix) (stage : Opened) → Good (Leaving prefix stage) → Finished (Leaving prefix stage)
unfolding step
from_leaving prefix stage good = by (Leaving prefix stage) (Made some_mark) _ some_mark_is refl good (from_closing prefix stage some_mark)

from_heard : (prefix : Prefix) (stage : BlockPrefix) → Good (Heard prefix stage) → Finished (Heard prefix stage)
unfolding step
from_heard prefix stage good = by (Heard prefix stage) (Stream2 some_mark) _ some_mark_is refl good (from_leaving prefix _)

from_named : (prefix : Prefix) (name : List ℕ) (steps : ℕ) → Good (Named prefix name steps) → Finished (Named prefix name steps)
unfolding step
from_named prefix name steps good =
    by (Named prefix name steps) (Stream1 some_mark) _ some_mark_is refl good (from_heard prefix (record { name = name; steps = steps; stream1 = some_mark }))

from_inputs : (form : ℕ) (recipe : Digest) (input : InputLine) (inputs : List InputLine) → Good (Inputs form recipe (input ∷ inputs))
    → Finished (Inputs form recipe (input ∷ inputs))
unfolding step
from_inputs form recipe input inputs good =
    let prefix : Prefix = record { form = form; recipe = recipe; inputs = input ∷ inputs; stages = [] } in
    let some : ltb 0 (suc (length inputs)) ≡ true = (Decides-ltb 0 (suc (length inputs))).1 (omega arith) in
    let opens : step (Inputs form recipe (input ∷ inputs)) (Stage some_name 0) ≡ Some (Named prefix some_name 0) = rw some refl in
    by (Inputs form recipe (input ∷ inputs)) (Stage some_name 0) (Named prefix some_name 0) (some_name_is, lit< tt) opens good (from_named prefix some_name 0)

from_no_input : (form : ℕ) (recipe : Digest) → Good (Inputs form recipe []) → Finished (Inputs form recipe [])
unfolding step
from_no_input form recipe good =
    let input : InputLine = record { name = some_name; mark = some_mark } in
    by (Inputs form recipe []) (Input input) _ (record { name = some_name_is; mark = some_mark_is }) refl good (from_inputs form recipe input [])

from_titled : (form : ℕ) → Good (Titled form) → Finished (Titled form)
unfolding step
from_titled form good = by (Titled form) (Recipe some_digest) _ some_digest_is refl good (from_no_input form some_digest)

pub finished : (s : State) → Good s → Finished s
unfolding step
finished Start good = by Start (Header 1) (Titled 1) (inl refl) refl tt (from_titled 1)
finished (Titled form) good = from_titled form good
finished (Inputs form recipe []) good = from_no_input form recipe good
finished (Inputs form recipe (input ∷ inputs)) good = from_inputs form recipe input inputs good
finished (Named prefix name steps) good = from_named prefix name steps good
finished (Heard prefix stage) good = from_heard prefix stage good
finished (Leaving prefix stage) good = from_leaving prefix stage good
finished (Closing prefix stage made) good = from_closing prefix stage made good
finished (Stages prefix) good = from_stages prefix good
finished (Compared report) good = from_compared report good
finished (Ended report) good = from_ended report good

-- ---- the lines of a report

stage_is : (stage : StageLine) → IsStageLine stage → All IsLine (stage_block stage)
stage_is stage is =
    let left = map Left stage.left in
    let ending = Made stage.made ∷ Checked stage.checked ∷ [] in
    let each_left : All IsLine left = All-map IsLine Left stage.left is.each_left in
    let last : All IsLine ending = All-cons IsLine (Made stage.made) (Checked stage.checked ∷ []) is.made (All-cons IsLine (Checked stage.checked) [] tt (All-nil IsLine)) in
    let rest = left ++ ending in
    All-cons IsLine (Stage stage.name stage.steps) (Stream1 stage.stream1 ∷ Stream2 stage.stream2 ∷ rest) (is.name, is.steps) (
    All-cons IsLine (Stream1 stage.stream1) (Stream2 stage.stream2 ∷ rest) is.stream1 (
    All-cons IsLine (Stream2 stage.stream2) rest is.stream2 (All-append IsLine left ending each_left last)))

stages_are : (stages : List StageLine) → All IsStageLine stages → All IsLine (flat_map stage_block stages)
stages_are [] each = All-nil IsLine
stages_are (stage ∷ stages) each =
    All-append IsLine (stage_block stage) (flat_map stage_block stages) (stage_is stage (All-head IsStageLine stage stages each)) (stages_are stages (All-tail IsStageLine stage stages each))

pub lines_are : (report : Report) → IsReport report → All IsLine (report_lines report)
lines_are report is =
    let inputs = map Input report.inputs in
    let stages = flat_map stage_block report.stages in
    let prefix : All IsLine (Header report.form ∷ Recipe report.recipe ∷ inputs) =
    All-cons IsLine (Header report.form) (Recipe report.recipe ∷ inputs) is.form (All-cons IsLine (Recipe report.recipe) inputs is.recipe (All-map IsLine Input report.inputs is.each_input)) in
    let compares = map Compare report.compare in
    let above : All IsLine ((Header report.form ∷ Recipe report.recipe ∷ inputs) ++ stages) =
    All-append IsLine (Header report.form ∷ Recipe report.recipe ∷ inputs) stages prefix (stages_are report.stages is.each_stage) in
    All-append IsLine (((Header report.form ∷ Recipe report.recipe ∷ inputs) ++ stages) ++ compares) (End ∷ [])
    (All-append IsLine ((Header report.form ∷ Recipe report.recipe ∷ inputs) ++ stages) compares above (All-map IsLine Compare report.compare is.each_compare))
    (All-cons IsLine End [] tt (All-nil IsLine))
