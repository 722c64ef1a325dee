-- A step keeps a position valid, or the audit is over.
use Rattle.std.proofs.Common.{◌≡◌, ℕ, zero, suc, ◌+◌, Bool, true, false, if◌then◌else◌, nat_lt, Result, Ok, Err, List, [], ◌∷◌, ◌++◌, length, map, drop, refl, sym, ap, ◌∙◌, subst, arith, All, inl, inr}
use Rattle.std.proofs.lemmas.Bool.{cases_lt}
use Rattle.std.proofs.lemmas.List.Elements.{All-cons, All-drop, All-map, All-nil}
use Rattle.std.proofs.lemmas.List.Sums.{sum_by-append}
use Rattle.elf_load.specs.Image.{image_of}
use Rattle.elf_load.specs.declared.Image.{Image}
use Rattle.elf_load.specs.declared.refusal.ElfRefusal.{ElfRefusal}
use Rattle.linux_calls.specs.Calls as call
use Rattle.linux_calls.specs.Calls.{CallOutcome, state}
use Rattle.linux_calls.proofs.Keeping.{OutcomeKeeps, call_keeps}
use Rattle.ddc_base.specs.Limits.{most_texts, most_total}
use Rattle.mem_files.specs.Outputs.{IsContent}
use Rattle.mem_files.specs.World.{World}
use Rattle.rv64_machine.specs.Hart.{Act, act}
use Rattle.rv64_machine.specs.Hart as hart
use Rattle.guest_run.specs.Run.{End, Next, Goes, Ends, step_of_act, step_of_call, call_arguments, call_number, next, outcome_of}
use Rattle.guest_run.specs.Setting.{Setting, files_size}
use Rattle.guest_run.specs.Stack.{start_size}
use Rattle.guest_run.specs.Start.{Refusal, ArgsTooLong, BoxTooLarge, start_of, start_state, started}
use Rattle.guest_run.specs.State.{GuestState}
use Rattle.guest_run.specs.Valid.{IsValid}
use Rattle.guest_run.proofs.Running.{after-none, after-on}
use Rattle.guest_run.proofs.StartLaw.{starts-valid}
use Rattle.guest_run.proofs.Validity.{after-valid}
use Rattle.recipe.specs.declared.contents.RecipeContents.{RecipeContents}
use Rattle.recipe.specs.declared.parts.Stage.{Stage}
use Rattle.audit_rules.proofs.Rules as kept
use Rattle.audit_rules.specs.declared.answer.StageFault.{StageFault}
use Rattle.audit_rules.specs.declared.answer.Finished.{Finished}
use Rattle.audit_rules.specs.Contents.{Contents, box_of, content}
use Rattle.audit_rules.specs.Stages.{artefact_bytes, contents, ending, finished, start_stage}
use Rattle.audit_rules.specs.Positions.{Position, Phase, On, Over, beginning, stage_closed, enter, entered, forward, forward_from, onward, step, todo}
use Rattle.audit_rules.specs.Valid.{AreDone, AreFinished, IsAt, IsFinished, IsInputs, IsPosition, IsPhase}
use Rattle.audit_rules.proofs.Continues.{todo-next}
use Rattle.audit_rules.proofs.Endings.{ended, finished-is}
use Rattle.audit_rules.proofs.GivenBoxes.{AreContents, box-is, content-is}
use Rattle.audit_rules.proofs.WellFormed.{report-is}
use Rattle.audit_rules.proofs.Slices.{step-next, went-on, went-spent}

-- a start has the heap of its box
start-heap : (program : List ℕ) (setting : Setting) (guest : GuestState) → start_of program setting ≡ Ok guest → guest.heap.limit ≡ setting.heap
unfolding start_of start_state
start-heap program setting guest is = by_image (image_of program) is where
  limit_of : Result GuestState Refusal → ℕ
  limit_of (Ok g) = g.heap.limit
  limit_of (Err e) = setting.heap

  started_limit : (r : Result Image ElfRefusal) → limit_of (started program setting r) ≡ setting.heap
  started_limit (Err refusal) = refl
  started_limit (Ok image) = by_texts (nat_lt most_texts (start_size setting.args setting.env)) where
    by_files : (b : Bool) → limit_of (if b then Err BoxTooLarge else Ok (start_state program setting image)) ≡ setting.heap
    by_files true = refl
    by_files false = refl

    by_texts : (b : Bool) → limit_of (if b then Err ArgsTooLong else (if nat_lt most_total (files_size setting.files) then Err BoxTooLarge else Ok (start_state program setting image))) ≡ setting.heap
    by_texts true = refl
    by_texts false = by_files (nat_lt most_total (files_size setting.files))

  by_image : (r : Result Image ElfRefusal) → started program setting r ≡ Ok guest → guest.heap.limit ≡ setting.heap
  by_image r is = sym (ap limit_of is) ∙ started_limit r

box-heap : (recipe : RecipeContents) (all : Contents) (stage : Stage) → (box_of recipe all stage).heap ≡ stage.heap
unfolding box_of
box-heap recipe all stage = refl

-- and steps keep it
heap_after_call : (guest : GuestState) (meant : CallOutcome) → OutcomeKeeps (state guest.hart.memory guest.world guest.heap) meant
    → (to : GuestState) → step_of_call guest meant ≡ Goes to → to.heap.limit ≡ guest.heap.limit
heap_after_call guest (call.goes answer left) keeps to is = sym (ap limit_of is) ∙ keeps.limit where
  limit_of : Next → ℕ
  limit_of (Goes g) = g.heap.limit
  limit_of (Ends end) = 0
heap_after_call guest (call.exits status) keeps to is = cc
heap_after_call guest (call.is_unknown number) keeps to is = cc

heap_after : (guest : GuestState) → IsValid guest → (an_act : Act) → (to : GuestState) → step_of_act guest an_act ≡ Goes to → to.heap.limit ≡ guest.heap.limit
heap_after guest valid (hart.GoesOn h) to is = sym (ap limit_of is) where
  limit_of : Next → ℕ
  limit_of (Goes g) = g.heap.limit
  limit_of (Ends end) = 0
heap_after guest valid hart.Calls to is =
    heap_after_call guest (outcome_of guest)
    (call_keeps (call_number guest) (call_arguments guest) (state guest.hart.memory guest.world guest.heap) valid.fits.heap_of) to is
heap_after guest valid (hart.Traps cause) to is = cc

heap-kept : (guest to : GuestState) → IsValid guest → next guest ≡ Goes to → to.heap.limit ≡ guest.heap.limit
unfolding next
heap-kept guest to valid is = heap_after guest valid (act guest.hart) to is

-- the present stage is one of the recipe's
pub present-is : (recipe : RecipeContents) (P : Stage → Type 0) (done : List Finished) (stage : Stage) (stages : List Stage) → All P recipe.stages
    → todo recipe done ≡ stage ∷ stages → P stage
present-is recipe P done stage stages all left =
    subst (All P) left (All-drop P (length done) recipe.stages all) 0 stage (omega arith)

one-artefact : (f : Finished) (made : List ℕ) (steps : ℕ) (w : World) → f ≡ finished steps w made → artefact_bytes (f ∷ []) ≡ length made
unfolding finished
one-artefact f made steps w is = let same : length f.made ≡ length made = ap (λ (g : Finished). length g.made) is in omega (arith, same)

-- a stage more is done
one_more : (stages : List Stage) (done : List Finished) (f : Finished) (stage : Stage) (rest : List Stage) → AreFinished stages done
    → drop (length done) stages ≡ stage ∷ rest → IsFinished stage f → AreFinished stages (done ++ f ∷ [])
one_more [] [] f stage rest are left is = cc
one_more (s ∷ stages) [] f stage rest are left is = (subst (λ (t : Stage). IsFinished t f) (sym (ap (first stage) left)) is, tt) where
  first : Stage → List Stage → Stage
  first d [] = d
  first d (x ∷ xs) = x
one_more [] (g ∷ done) f stage rest are left is = absurd are
one_more (s ∷ stages) (g ∷ done) f stage rest are left is = (are.0, one_more stages done f stage rest are.1 left is)

pub all-made : (stages : List Stage) (done : List Finished) → AreFinished stages done → All (λ (f : Finished). IsContent f.made) done
all-made stages [] are = All-nil (λ (f : Finished). IsContent f.made)
all-made [] (f ∷ done) are = absurd are
all-made (stage ∷ stages) (f ∷ done) are = All-cons (λ (g : Finished). IsContent g.made) f done are.0.made (all-made stages done are.1)

made-contents : (stages : List Stage) (done : List Finished) → AreFinished stages done → All IsContent (map (λ (f : Finished). f.made) done)
made-contents stages done are = All-map IsContent (λ (f : Finished). f.made) done (all-made stages done are)

module _ (recipe : RecipeContents) (is : kept.IsRecipe recipe) (inputs : List (List ℕ)) (given : IsInputs recipe inputs) where
  pub contents-are : (done : List Finished) → AreDone recipe done → AreContents (contents inputs done)
  contents-are done are = record { inputs = given.each; artefacts = made-contents recipe.stages done are.each }

  pub enter-phase : (done : List Finished) (stages : List Stage) → AreDone recipe done → todo recipe done ≡ stages
      → IsPhase recipe (enter recipe inputs done stages)
  enter-phase done [] are left = report-is recipe is inputs given done are (contents-are done are) left
  enter-phase done (stage ∷ stages) are left = by_begin (start_stage recipe (contents inputs done) stage) refl where
    rules : kept.IsStage stage
    rules = present-is recipe kept.IsStage done stage stages is.stages left

    all : AreContents (contents inputs done)
    all = contents-are done are

    by_begin : (s : Result GuestState Refusal) → start_stage recipe (contents inputs done) stage ≡ s → IsPhase recipe (entered done s)
    by_begin (Err why) begins = tt
    by_begin (Ok guest) begins =
        let valid = starts-valid (content recipe (contents inputs done) stage.program) (box_of recipe (contents inputs done) stage) guest
        ((content-is recipe (contents inputs done) stage.program all).bytes) (box-is recipe (contents inputs done) stage all rules) begins in (
          stage,
          stages,
          record {
            left = left;
            within = omega (arith, rules.some_steps, valid.1);
            heap = start-heap _ (box_of recipe (contents inputs done) stage) guest begins ∙ box-heap recipe (contents inputs done) stage;
            valid = valid.0;
            done = are;
          },
        )

  -- a stage more is done
  pub done-more : (p : Position) (stage : Stage) (stages : List Stage) (end : End) (f : Finished) → IsAt recipe p stage stages
      → ending recipe inputs p.done stage end p.at ≡ Ok f → AreDone recipe (p.done ++ f ∷ [])
  done-more p stage stages end f ok comes =
      let are = ended recipe inputs p.done stage end p.at f comes in
      let size : artefact_bytes (f ∷ []) ≡ length are.made = one-artefact f are.made (p.at.steps + 1) p.at.world are.is in
      let whole : artefact_bytes (p.done ++ f ∷ []) ≡ artefact_bytes p.done + artefact_bytes (f ∷ []) = sum_by-append (λ (g : Finished). length g.made) p.done (f ∷ []) in
      record {
        each = one_more recipe.stages p.done f stage stages ok.done.each ok.left
            (subst (IsFinished stage) (sym are.is)
            (finished-is stage (p.at.steps + 1) p.at.world are.made ok.valid.files (omega arith) (omega (arith, ok.within)) are.there));
        small = omega (arith, are.small, size, whole);
      }

  -- a stage's end: the next stage is entered, or the audit is over
  pub closed-phase : (p : Position) (stage : Stage) (stages : List Stage) (end : End) → IsAt recipe p stage stages
      → IsPhase recipe (stage_closed recipe inputs p.done stages (ending recipe inputs p.done stage end p.at))
  closed-phase p stage stages end ok = by_result (ending recipe inputs p.done stage end p.at) refl where
    by_result : (r : Result Finished StageFault) → ending recipe inputs p.done stage end p.at ≡ r → IsPhase recipe (stage_closed recipe inputs p.done stages r)
    by_result (Err fault) comes = tt
    by_result (Ok f) comes =
        enter-phase (p.done ++ f ∷ []) stages (done-more p stage stages end f ok comes) (todo-next recipe p.done f stage stages ok.left)

  -- a step keeps a position valid, or the audit is over
  pub step-phase : (p : Position) → IsPosition recipe p → IsPhase recipe (step recipe inputs p)
  step-phase p (stage, stages, ok) = by_next (next p.at) refl where
    by_next : (n : Next) → next p.at ≡ n → IsPhase recipe (step recipe inputs p)
    by_next (Ends end) is =
        subst (IsPhase recipe) (sym (step-next recipe inputs p stage stages (Ends end) ok.left is)) (closed-phase p stage stages end ok)
    by_next (Goes to) is =
        subst (IsPhase recipe) (sym (step-next recipe inputs p stage stages (Goes to) ok.left is))
        (elim (cases_lt to.steps stage.steps) [
          | inl less ↦ subst (IsPhase recipe) (sym (went-on p.done stage to less)) (
            stage,
            stages,
            record {
              left = ok.left;
              within = less;
              heap = heap-kept p.at to ok.valid is ∙ ok.heap;
              valid = after-valid p.at to 1 ok.valid (after-on p.at p.at to 0 (after-none p.at) is);
              done = ok.done;
            },
          )
          | inr past ↦ subst (IsPhase recipe) (sym (went-spent p.done stage to past)) tt
        ])

  pub forward-phase : (p : Position) → IsPosition recipe p → (count : ℕ) → IsPhase recipe (forward recipe inputs p count)
  unfolding forward
  forward-phase p ok zero = ok
  forward-phase p ok (suc count) = by_position (forward recipe inputs p count) (forward-phase p ok count) where
    by_position : (o : Phase) → IsPhase recipe o → IsPhase recipe (onward o (step recipe inputs))
    by_position (Over answer) earlier = earlier
    by_position (On q) earlier = step-phase q earlier

  pub from-phase : (from : Phase) → IsPhase recipe from → (count : ℕ) → IsPhase recipe (forward_from recipe inputs from count)
  from-phase (Over answer) ok count = ok
  from-phase (On p) ok count = forward-phase p ok count

  pub beginning-phase : IsPhase recipe (beginning recipe inputs)
  beginning-phase = enter-phase [] recipe.stages (record { each = tt; small = omega arith }) refl
