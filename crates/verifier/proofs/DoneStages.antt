-- A stage that is done, as a relation: what the bench finds and what a replay judges are both this.
use Rattle.std.proofs.Common.{◌≡◌, ℕ, zero, suc, ◌+◌, ◌≤◌, ◌==◌, ◌&&◌, Bool, true, false, nat_le, if◌then◌else◌, Option, None, Some, Result, Ok, Err, List, [], ◌∷◌, length, map, refl, sym, ap, ◌∙◌, arith}
use Rattle.std.specs.List.{fold}
use Rattle.std.specs.Prelude.{Contains}
use Rattle.std.proofs.lemmas.Bool.{and_parts, and_from, eqb-true, le-leb, leb-true}
use Rattle.std.proofs.lemmas.Option.{same_Some}
use Rattle.ddc_base.specs.Results.{◌>>=◌, or_error}
use Rattle.ddc_base.specs.Limits.{most_artefacts}
use Rattle.mem_files.specs.World.{World}
use Rattle.mem_files.specs.Outputs.{IsContent, out}
use Rattle.mem_files.proofs.Leftovers.{output-is}
use Rattle.guest_run.specs.State.{GuestState}
use Rattle.guest_run.specs.Setting.{Setting}
use Rattle.guest_run.specs.Start.{Refusal, start_of}
use Rattle.guest_run.specs.Run.{End, Exited, Trapped, UnknownCall, end_at, end_of, first_end}
use Rattle.guest_run.specs.Program.{ProgramRun}
use Rattle.guest_run.proofs.Endings.{end-counted, run-sound}
use Rattle.guest_run.proofs.Running.{after-counted, end_at-next}
use Rattle.guest_run.proofs.RunLaws.{first_end-found, no_end_at-zero}
use Rattle.recipe.specs.declared.contents.RecipeContents.{RecipeContents}
use Rattle.recipe.specs.declared.parts.Stage.{Stage}
use Rattle.report.specs.declared.types.StageLine.{StageLine}
use Rattle.audit_rules.specs.declared.source_check.cause.CheckCause.{CheckCause}
use Rattle.audit_rules.specs.declared.answer.Finished.{Finished}
use Rattle.recipe.specs.Kept.{IsRecipe}
use Rattle.audit_rules.specs.Contents.{Contents, box_of, check_of, program_of}
use Rattle.audit_rules.specs.Stages.{artefact_bytes, by_end, by_start, contents, exited_with, finished, output_of, stage_result, start_stage}
use Rattle.audit_rules.proofs.Continues.{fresh}
use Rattle.audit_rules.proofs.Endings.{ended, exit-done}
use Rattle.audit_rules.proofs.GivenBoxes.{AreContents, box-is, content-is}
use Rattle.audit_rules.proofs.Slices.{end-step}
use Rattle.verifier.proofs.StageRules.{rules-of}
use Rattle.verifier.specs.declared.part.Part.{Part}
use Rattle.verifier.specs.declared.part.Part.TheVariants as part
use Rattle.report.specs.Marks.{is_mark_of}
use Rattle.verifier.specs.Verdicts.{CanCheck}
use Rattle.verifier.specs.Faults.{checked_artefact, exit_of, has_left, left_at, made_as, recorded, replayed, size_of}

-- the program ends by an exit with 0 at this step, and what it leaves has an artefact that is small enough and right
pub record IsDone (recipe : RecipeContents) (inputs : List (List ℕ)) (done : List Finished) (stage : Stage) (steps : ℕ) (world : World) (made : List ℕ) : Type 0 where
  pub guest : GuestState
  pub last : GuestState
  pub started : start_stage recipe (contents inputs done) stage ≡ Ok guest
  pub ended : end_at guest steps ≡ Some (Exited 0, last)
  pub leaves : last.world ≡ world
  pub within : steps ≤ stage.steps
  pub there : out world (output_of stage.output) ≡ Some made
  pub small : artefact_bytes done + length made ≤ most_artefacts
  pub right : check_of recipe (contents inputs done) stage made ≡ None

-- ---- the bench's stage

pub result-done : (recipe : RecipeContents) (inputs : List (List ℕ)) (done : List Finished) (stage : Stage) (f : Finished) → stage_result recipe inputs done stage ≡ Ok f
    → (world : World) × (made : List ℕ) × IsDone recipe inputs done stage f.steps world made × (f ≡ finished f.steps world made)
unfolding finished
result-done recipe inputs done stage f is = by_begin (start_stage recipe (contents inputs done) stage) refl is where
  Goal : Type 0
  Goal = (world : World) × (made : List ℕ) × IsDone recipe inputs done stage f.steps world made × (f ≡ finished f.steps world made)

  by_begin : (s : Result GuestState Refusal) → start_stage recipe (contents inputs done) stage ≡ s → by_start recipe inputs done stage s ≡ Ok f → Goal
  by_begin (Err why) started is = absurd cc
  by_begin (Ok guest) started is = by_first (first_end guest stage.steps) refl is where
    by_first : (o : Option (End × GuestState)) → first_end guest stage.steps ≡ o → by_end recipe inputs done stage o ≡ Ok f → Goal
    by_first None at is = absurd cc
    by_first (Some (end, last)) at is =
        let e = ended recipe inputs done stage end last f is in
        let at_step = end-step guest stage.steps (end, last) at in
        let counted = after-counted guest last at_step.0 at_step.2 in
        let zero_steps = fresh _ _ guest started in
        let steps : f.steps ≡ last.steps + 1 = ap (λ (g : Finished). g.steps) e.is in
        let number : f.steps ≡ suc at_step.0 = omega (arith, counted, zero_steps, steps) in (
          last.world,
          e.made,
          record {
            guest = guest;
            last = last;
            started = started;
            ended = ap (end_at guest) number ∙ end_at-next guest last at_step.0 at_step.2 ∙ ap (end_of last) at_step.3 ∙ ap (λ x. Some (x, last)) e.exit;
            leaves = refl;
            within = omega (arith, at_step.1, number);
            there = e.there;
            small = e.small;
            right = e.right;
          },
          e.is ∙ ap (λ s. finished s last.world e.made) (sym steps),
        )

pub done-result : (recipe : RecipeContents) (inputs : List (List ℕ)) (done : List Finished) (stage : Stage) (steps : ℕ) (world : World) (made : List ℕ)
    → IsDone recipe inputs done stage steps world made → stage_result recipe inputs done stage ≡ Ok (finished steps world made)
done-result recipe inputs done stage steps world made ok =
    let counted = end-counted ok.guest ok.last steps (Exited 0) ok.ended in
    let zero_steps = fresh _ _ ok.guest ok.started in
    let number : ok.last.steps + 1 ≡ steps = omega (arith, counted, zero_steps) in
    ap (by_start recipe inputs done stage) ok.started
    ∙ ap (by_end recipe inputs done stage) (first_end-found ok.guest steps stage.steps (Exited 0, ok.last) ok.within ok.ended)
    ∙ (λ i. exited_with recipe inputs done stage 0 (number i) (ok.leaves i))
    ∙ exit-done recipe inputs done stage steps world made ok.there ok.small ok.right

-- ---- a judged line

-- the bytes of the artefacts, counted either way
sizes : (sum : ℕ) (done : List Finished) → fold (λ a (x : List ℕ). a + length x) sum (map (λ (f : Finished). f.made) done) ≡ fold (λ a (f : Finished). a + length f.made) sum done
sizes sum [] = refl
sizes sum (f ∷ done) = sizes (sum + length f.made) done

pub size-of : (inputs : List (List ℕ)) (done : List Finished) → size_of (contents inputs done) ≡ artefact_bytes done
size-of inputs done = sizes 0 done

-- what stands after a chain that comes to a value
chained : {A B : Type 0} (r : Result A Part) (rest : A → Result B Part) (value : B) → (r >>= rest) ≡ Ok value → (found : A) × (r ≡ Ok found) × (rest found ≡ Ok value)
chained (Ok found) rest value is = (found, refl, is)
chained (Err why) rest value is = absurd cc

pub there-is : {A : Type 0} (why : Part) (o : Option A) (value : A) → or_error why o ≡ Ok value → o ≡ Some value
there-is why None value is = absurd cc
there-is {A = A} why (Some found) value is = ap (λ r. Some (value_of r)) is where
  value_of : Result A Part → A
  value_of (Ok v) = v
  value_of (Err e) = found

-- a run that is as recorded
pub record Ran (start : Result GuestState Refusal) (limit step : ℕ) (world : World) : Type 0 where
  pub guest : GuestState
  pub last : GuestState
  pub started : start ≡ Ok guest
  pub ended : end_at guest step ≡ Some (Exited 0, last)
  pub leaves : last.world ≡ world
  pub within : step ≤ limit

ran : (start : Result GuestState Refusal) (limit step : ℕ) (world : World) → left_at start limit step ≡ Some world → Ran start limit step world
ran (Err why) limit step world is = absurd cc
ran (Ok guest) limit step world is = by_limits (nat_le 1 step && nat_le step limit) refl is where
  by_status : (status : ℕ) (last : GuestState) (b : Bool) → (status == 0) ≡ b → end_at guest step ≡ Some (Exited status, last) → step ≤ limit
      → (if b then Some last.world else None) ≡ Some world → Ran (Ok guest) limit step world
  by_status status last false none at within is = absurd cc
  by_status status last true none at within is = record {
    guest = guest;
    last = last;
    started = refl;
    ended = at ∙ ap (λ s. Some (Exited s, last)) (eqb-true status 0 none);
    leaves = same_Some last.world world is;
    within = within;
  }

  by_end_at : (o : Option (End × GuestState)) → end_at guest step ≡ o → step ≤ limit → exit_of o ≡ Some world → Ran (Ok guest) limit step world
  by_end_at None at within is = absurd cc
  by_end_at (Some (Trapped cause, last)) at within is = absurd cc
  by_end_at (Some (UnknownCall number, last)) at within is = absurd cc
  by_end_at (Some (Exited status, last)) at within is = by_status status last (status == 0) refl at within is

  by_limits : (b : Bool) → (nat_le 1 step && nat_le step limit) ≡ b → (if b then exit_of (end_at guest step) else None) ≡ Some world → Ran (Ok guest) limit step world
  by_limits false limits is = absurd cc
  by_limits true limits is =
      by_end_at (end_at guest step) refl (leb-true step limit (and_parts (nat_le 1 step) (nat_le step limit) limits).1) is

-- an artefact that is as recorded
pub record Made (so_far : Contents) (stage : Stage) (line : StageLine) (world : World) (made : List ℕ) : Type 0 where
  pub left : has_left line world ≡ true
  pub there : out world (output_of stage.output) ≡ Some made
  pub mark : is_mark_of line.made made ≡ true
  pub small : size_of so_far + length made ≤ most_artefacts

made-is : (so_far : Contents) (stage : Stage) (line : StageLine) (world : World) (made : List ℕ)
    → recorded so_far stage line world ≡ Some made → Made so_far stage line world made
made-is so_far stage line world made is = by_left (has_left line world) refl is where
  by_tests : (found : List ℕ) (b : Bool) → (is_mark_of line.made found && nat_le (size_of so_far + length found) most_artefacts) ≡ b
      → has_left line world ≡ true → out world (output_of stage.output) ≡ Some found → (if b then Some found else None) ≡ Some made → Made so_far stage line world made
  by_tests found false tests left there is = absurd cc
  by_tests found true tests left there is =
      let parts = and_parts (is_mark_of line.made found) (nat_le (size_of so_far + length found) most_artefacts) tests in
      let same : found ≡ made = same_Some found made is in
      let small = leb-true (size_of so_far + length found) most_artefacts parts.1 in
      let lengths : length found ≡ length made = ap length same in
      record {
        left = left;
        there = there ∙ ap Some same;
        mark = ap (is_mark_of line.made) (sym same) ∙ parts.0;
        small = omega (arith, small, lengths);
      }

  by_output : (o : Option (List ℕ)) → out world (output_of stage.output) ≡ o → has_left line world ≡ true → made_as so_far line o ≡ Some made → Made so_far stage line world made
  by_output None there left is = absurd cc
  by_output (Some found) there left is = by_tests found (is_mark_of line.made found && nat_le (size_of so_far + length found) most_artefacts) refl left there is

  by_left : (b : Bool) → has_left line world ≡ b → (if b then made_as so_far line (out world (output_of stage.output)) else None) ≡ Some made → Made so_far stage line world made
  by_left false left is = absurd cc
  by_left true left is = by_output (out world (output_of stage.output)) refl left is

-- an artefact in which nothing is wrong
right-is : (found made : List ℕ) (o : Option CheckCause) → checked_artefact found o ≡ Ok made → (o ≡ None) × (found ≡ made)
right-is found made None is = (refl, ap (λ (r : Result (List ℕ) Part). value_of r) is) where
  value_of : Result (List ℕ) Part → List ℕ
  value_of (Ok v) = v
  value_of (Err e) = found
right-is found made (Some why) is = absurd cc

-- what stands after a line that is right
pub record Judged (recipe : RecipeContents) (so_far : Contents) (stage : Stage) (line : StageLine) (made : List ℕ) : Type 0 where
  pub world : World
  pub run : Ran (start_stage recipe so_far stage) stage.steps line.steps world
  pub artefact : Made so_far stage line world made
  pub right : check_of recipe so_far stage made ≡ None

pub judged : (recipe : RecipeContents) (so_far : Contents) (stage : Stage) (line : StageLine) (made : List ℕ) → replayed recipe so_far stage line ≡ Ok made
    → Judged recipe so_far stage line made
unfolding replayed
judged recipe so_far stage line made is =
    let start = start_stage recipe so_far stage in
    let first = chained (or_error part.Run (left_at start stage.steps line.steps))
    (λ world. or_error part.Files (recorded so_far stage line world) >>= (λ found. checked_artefact found (check_of recipe so_far stage found))) made is in
    let world = first.0 in
    let second = chained (or_error part.Files (recorded so_far stage line world)) (λ found. checked_artefact found (check_of recipe so_far stage found)) made first.2 in
    let third = right-is second.0 made (check_of recipe so_far stage second.0) second.2 in
    record {
      world = world;
      run = ran start stage.steps line.steps world (there-is part.Run (left_at start stage.steps line.steps) world first.1);
      artefact = made-is so_far stage line world made (there-is part.Files (recorded so_far stage line world) second.0 second.1 ∙ ap Some third.1);
      right = ap (check_of recipe so_far stage) (sym third.1) ∙ third.0;
    }

-- what stands before the check of a line that is right
pub can-check : (recipe : RecipeContents) (so_far : Contents) (stage : Stage) (line : StageLine) (made : List ℕ) → replayed recipe so_far stage line ≡ Ok made
    → CanCheck recipe so_far stage line
unfolding replayed
can-check recipe so_far stage line made is =
    let start = start_stage recipe so_far stage in
    let first = chained (or_error part.Run (left_at start stage.steps line.steps))
    (λ world. or_error part.Files (recorded so_far stage line world) >>= (λ found. checked_artefact found (check_of recipe so_far stage found))) made is in
    let second = chained (or_error part.Files (recorded so_far stage line first.0)) (λ found. checked_artefact found (check_of recipe so_far stage found)) made first.2 in
    record {
      world = first.0;
      ran = there-is part.Run (left_at start stage.steps line.steps) first.0 first.1;
      made = second.0;
      left = there-is part.Files (recorded so_far stage line first.0) second.0 second.1;
    }

pub replayed-done : (recipe : RecipeContents) (inputs : List (List ℕ)) (done : List Finished) (stage : Stage) (line : StageLine) (made : List ℕ)
    → replayed recipe (contents inputs done) stage line ≡ Ok made
    → (world : World) × IsDone recipe inputs done stage line.steps world made × (has_left line world ≡ true) × (is_mark_of line.made made ≡ true)
replayed-done recipe inputs done stage line made is =
    let j = judged recipe (contents inputs done) stage line made is in
    let small = j.artefact.small in
    let size = size-of inputs done in (
      j.world,
      record {
        guest = j.run.guest;
        last = j.run.last;
        started = j.run.started;
        ended = j.run.ended;
        leaves = j.run.leaves;
        within = j.run.within;
        there = j.artefact.there;
        small = omega (arith, small, size);
        right = j.right;
      },
      j.artefact.left,
      j.artefact.mark,
    )

-- the artefact of a stage that is right is a content, and within the limit of all artefacts
pub replayed-content : (recipe : RecipeContents) (so_far : Contents) (stage : Stage) (line : StageLine) (made : List ℕ) → IsRecipe recipe → Contains recipe.stages stage
    → AreContents so_far → replayed recipe so_far stage line ≡ Ok made → IsContent made × (size_of so_far + length made ≤ most_artefacts)
replayed-content recipe so_far stage line made is known are right =
    let j = judged recipe so_far stage line made right in
    let run : ProgramRun (program_of recipe so_far stage) (box_of recipe so_far stage) line.steps 0 j.world =
    record { start = j.run.guest; last = j.run.last; starts = j.run.started; ends = j.run.ended; leaves = j.run.leaves } in
    let sound = run-sound (program_of recipe so_far stage) (box_of recipe so_far stage) line.steps 0 j.world (content-is recipe so_far stage.program are).bytes
    (box-is recipe so_far stage are (rules-of recipe stage is known)) run in
    (output-is j.world (output_of stage.output) made sound j.artefact.there, j.artefact.small)

pub some-step : (guest : GuestState) (end : End × GuestState) (steps : ℕ) → end_at guest steps ≡ Some end → 1 ≤ steps
some-step guest end zero is = absurd (no_end_at-zero guest end is)
some-step guest end (suc count) is = omega arith

pub done-replayed : (recipe : RecipeContents) (inputs : List (List ℕ)) (done : List Finished) (stage : Stage) (line : StageLine) (world : World) (made : List ℕ)
    → IsDone recipe inputs done stage line.steps world made → has_left line world ≡ true → is_mark_of line.made made ≡ true
    → replayed recipe (contents inputs done) stage line ≡ Ok made
unfolding replayed
done-replayed recipe inputs done stage line world made ok left mark =
    let files : World → Result (List ℕ) Part =
    λ w. or_error part.Files (recorded (contents inputs done) stage line w) >>= (λ found. checked_artefact found (check_of recipe (contents inputs done) stage found)) in
    let check : Result (List ℕ) Part → Result (List ℕ) Part = λ r. r >>= (λ found. checked_artefact found (check_of recipe (contents inputs done) stage found)) in
    let size = size-of inputs done in
    let small : size_of (contents inputs done) + length made ≤ most_artefacts = omega (arith, ok.small, size) in
    ap (λ s. or_error part.Run (left_at s stage.steps line.steps) >>= files) ok.started
    ∙ ap (λ b. or_error part.Run (if b then exit_of (end_at ok.guest line.steps) else None) >>= files)
    (and_from (nat_le 1 line.steps) (nat_le line.steps stage.steps) (le-leb 1 line.steps (some-step ok.guest (Exited 0, ok.last) line.steps ok.ended)) (le-leb line.steps stage.steps ok.within))
    ∙ ap (λ o. or_error part.Run (exit_of o) >>= files) ok.ended
    ∙ ap files ok.leaves
    ∙ ap (λ b. check (or_error part.Files (if b then made_as (contents inputs done) line (out world (output_of stage.output)) else None))) left
    ∙ ap (λ o. check (or_error part.Files (made_as (contents inputs done) line o))) ok.there
    ∙ ap (λ b. check (or_error part.Files (if b then Some made else None)))
    (and_from (is_mark_of line.made made) (nat_le (size_of (contents inputs done) + length made) most_artefacts) mark (le-leb (size_of (contents inputs done) + length made) most_artefacts small))
    ∙ ap (checked_artefact made) ok.right

-- ---- a judged run

pub judged-run : (program : List ℕ) (setting : Setting) (limit step : ℕ) (world : World) → left_at (start_of program setting) limit step ≡ Some world
    → (1 ≤ step) × (step ≤ limit) × ProgramRun program setting step 0 world
judged-run program setting limit step world is =
    let r = ran (start_of program setting) limit step world is in
    (some-step r.guest (Exited 0, r.last) step r.ended, r.within, record { start = r.guest; last = r.last; starts = r.started; ends = r.ended; leaves = r.leaves })

pub run-judged : (program : List ℕ) (setting : Setting) (limit step : ℕ) (world : World) → 1 ≤ step → step ≤ limit → ProgramRun program setting step 0 world
    → left_at (start_of program setting) limit step ≡ Some world
run-judged program setting limit step world some within run =
    ap (λ s. left_at s limit step) run.starts
    ∙ ap (λ b. if b then exit_of (end_at run.start step) else None) (and_from (nat_le 1 step) (nat_le step limit) (le-leb 1 step some) (le-leb step limit within))
    ∙ ap exit_of run.ends ∙ ap Some run.leaves
