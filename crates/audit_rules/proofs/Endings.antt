-- A stage that is done keeps the rules of finished stages.
use Rattle.std.proofs.Common.{◌≡◌, ℕ, ◌+◌, ◌≤◌, ◌==◌, Bool, true, false, IsTrue, nat_le, Option, None, Some, Result, Ok, Err, List, [], ◌∷◌, length, map, refl, sym, ap, ◌∙◌, arith}
use Rattle.std.specs.List.{Contains}
use Rattle.std.specs.Ordering.{is_lt}
use Rattle.std.specs.FinMap.{is_sorted}
use Rattle.std.specs.FinMap.Entries.{below_all}
use Rattle.std.proofs.lemmas.Bool.{and_parts, and_from, leb-true, le-leb, eqb-true}
use Rattle.std.proofs.lemmas.List.{length-map}
use Rattle.std.proofs.lemmas.List.Elements.{All-map, All-weaker}
use Rattle.std.proofs.lemmas.Option.{same_Some}
use Rattle.std.proofs.Math.ListN.{get_or-map}
use Rattle.ddc_base.specs.Results.{◌>>=◌, ◌>>◌, or_error, error_unless}
use Rattle.ddc_base.proofs.Results.{bound, found, taken, tested}
use Rattle.ddc_base.specs.Limits.{most_artefacts}
use Rattle.mem_files.specs.Names.{bytes_cmp}
use Rattle.mem_files.specs.Outputs.{IsLeftFile, left, out}
use Rattle.mem_files.specs.Sound.{IsSound}
use Rattle.mem_files.specs.World.{World}
use Rattle.mem_files.proofs.Leftovers.{left-are, output-is, path-left, streams-are}
use Rattle.guest_run.specs.State.{GuestState}
use Rattle.guest_run.specs.Run.{End, Exited, Trapped, UnknownCall}
use Rattle.recipe.specs.declared.contents.RecipeContents.{RecipeContents}
use Rattle.recipe.specs.declared.parts.Output.{Output}
use Rattle.recipe.specs.declared.parts.Output.TheVariants.{Stream, File}
use Rattle.recipe.specs.declared.parts.Stage.{Stage}
use Rattle.report.specs.Reports.{ascend}
use Rattle.audit_rules.specs.declared.source_check.cause.CheckCause.{CheckCause}
use Rattle.audit_rules.specs.declared.answer.StageFault.{StageFault}
use Rattle.audit_rules.specs.declared.answer.StageFault.TheVariants.{Runs}
use Rattle.audit_rules.specs.declared.answer.Finished.{Finished}
use Rattle.audit_rules.specs.declared.cause.RunCause.TheVariants as run
use Rattle.audit_rules.specs.Contents.{check_of}
use Rattle.report.specs.Marks.{mark_of}
use Rattle.audit_rules.specs.Stages.{artefact_bytes, check_passed, contents, ending, exited_with, finished, marked_left, output_of}
use Rattle.audit_rules.specs.Valid.{HasMark, IsFinished, IsLeftLine}
use Rattle.audit_rules.proofs.Marks.{mark-small}

-- names that rise do so as lines
lines-ascend : (files : List (List ℕ × List ℕ)) → IsTrue (is_sorted bytes_cmp files) → IsTrue (ascend (map marked_left files))
lines-ascend [] rise = refl
lines-ascend (a ∷ []) rise = refl
lines-ascend (a ∷ (b ∷ files)) rise =
    let parts = and_parts (below_all bytes_cmp a.0 (b ∷ files)) (is_sorted bytes_cmp (b ∷ files)) rise in
    let first = and_parts (is_lt (bytes_cmp a.0 b.0)) (below_all bytes_cmp a.0 files) parts.0 in
    and_from (is_lt (bytes_cmp a.0 b.0)) (ascend (map marked_left (b ∷ files))) first.0 (lines-ascend (b ∷ files) parts.1)

contains-line : (files : List (List ℕ × List ℕ)) (path content : List ℕ) → Contains files (path, content)
    → Contains (map marked_left files) (record { name = path; mark = mark_of content })
contains-line files path content there = (
  there.0,
  omega (arith, there.1, length-map files marked_left),
  get_or-map marked_left files there.0 (path, content) ∙ ap marked_left there.2,
)

-- the artefact has the mark of the output
marked : (output : Output) (steps : ℕ) (w : World) (made : List ℕ) → IsSound w → out w (output_of output) ≡ Some made → HasMark output (finished steps w made)
unfolding finished
marked Stream steps w made sound is = ap mark_of (same_Some w.stream1 made is)
marked (File path) steps w made sound is = contains-line (left w) path made (path-left w path made sound is)

left-line-is : (file : List ℕ × List ℕ) → IsLeftFile file → IsLeftLine (marked_left file)
left-line-is file is = record { named = is.named; name_bytes = is.name_bytes; mark = mark-small file.1 is.content }

pub finished-is : (stage : Stage) (steps : ℕ) (w : World) (made : List ℕ) → IsSound w → 1 ≤ steps → steps ≤ stage.steps
    → out w (output_of stage.output) ≡ Some made → IsFinished stage (finished steps w made)
unfolding finished
finished-is stage steps w made sound some few is =
    let streams = streams-are w sound in
    let files = left-are w sound in
    record {
      some_steps = some;
      few_steps = few;
      stream1 = mark-small w.stream1 streams.0;
      stream2 = mark-small w.stream2 streams.1;
      each_left = All-map IsLeftLine marked_left (left w) (All-weaker IsLeftFile (λ file. IsLeftLine (marked_left file)) left-line-is (left w) files.each);
      few_left = omega (arith, files.few, length-map (left w) marked_left);
      ascending = lines-ascend (left w) files.ascending;
      made = output-is w (output_of stage.output) made sound is;
      output = marked stage.output steps w made sound is;
    }

-- what an ending that is no fault comes to
pub record Ended (recipe : RecipeContents) (inputs : List (List ℕ)) (done : List Finished) (stage : Stage) (end : End) (guest : GuestState) (f : Finished) : Type 0 where
  pub exit : end ≡ Exited 0
  pub made : List ℕ
  pub there : out guest.world (output_of stage.output) ≡ Some made
  pub small : artefact_bytes done + length made ≤ most_artefacts
  pub right : check_of recipe (contents inputs done) stage made ≡ None
  pub is : f ≡ finished (guest.steps + 1) guest.world made

right-check : (o : Option CheckCause) (passed : Unit {0}) → check_passed o ≡ Ok passed → o ≡ None
right-check None passed is = refl
right-check (Some why) passed is = cc

pub ended : (recipe : RecipeContents) (inputs : List (List ℕ)) (done : List Finished) (stage : Stage) (end : End) (guest : GuestState) (f : Finished)
    → ending recipe inputs done stage end guest ≡ Ok f → Ended recipe inputs done stage end guest f
ended recipe inputs done stage (Trapped cause) guest f is = cc
ended recipe inputs done stage (UnknownCall number) guest f is = cc
ended recipe inputs done stage (Exited status) guest f is =
    let steps = guest.steps + 1 in
    taken {P = Ended recipe inputs done stage (Exited status) guest} (exited_with recipe inputs done stage status steps guest.world) f
    (tested (Runs (run.Status status) steps) (status == 0) _ (λ none.
    found (Runs run.NoOutput steps) (out guest.world (output_of stage.output)) _ (λ made there.
    tested (Runs run.Crowded steps) (nat_le (artefact_bytes done + length made) most_artefacts) _ (λ small.
    bound (check_passed (check_of recipe (contents inputs done) stage made)) _ (λ passed right. record {
      is = record {
        exit = ap Exited (eqb-true status 0 none);
        made = made;
        there = there;
        small = leb-true _ _ small;
        right = right-check _ passed right;
        is = refl;
      };
    })))))
    is

-- and the way back
pub exit-done : (recipe : RecipeContents) (inputs : List (List ℕ)) (done : List Finished) (stage : Stage) (steps : ℕ) (world : World) (made : List ℕ)
    → out world (output_of stage.output) ≡ Some made → artefact_bytes done + length made ≤ most_artefacts → check_of recipe (contents inputs done) stage made ≡ None
    → exited_with recipe inputs done stage 0 steps world ≡ Ok (finished steps world made)
exit-done recipe inputs done stage steps world made there small right =
    let kept : List ℕ → Result Finished StageFault = λ m. check_passed (check_of recipe (contents inputs done) stage m) >> Ok (finished steps world m) in
    let sized : Bool → List ℕ → Result Finished StageFault = λ b m. error_unless (Runs run.Crowded steps) b >> kept m in
    ap (λ o. or_error (Runs run.NoOutput steps) o >>= λ m. sized (nat_le (artefact_bytes done + length m) most_artefacts) m) there
    ∙ ap (λ b. sized b made) (le-leb _ _ small)
    ∙ ap (λ o. check_passed o >> Ok (finished steps world made)) right
