-- How a cut ends is what the run's first end says.
use Rattle.std.proofs.Common.{◌≡◌, ℕ, zero, suc, ◌+◌, ◌-◌, ◌*◌, ◌/◌, ◌<◌, ◌≤◌, ◌↔◌, Bool, true, false, cond, IsTrue, Option, None, Some, Result, Ok, Err, List, length, min, nat_le, unwrap_or, refl, sym, ap, ◌∙◌, subst, arith}
use Rattle.std.specs.Prelude.{nat_lt}
use Rattle.std.specs.FinMap as finite
use Rattle.std.proofs.Math.Nat.{add-mul, div-eq_of_lt, mul-add-div_right, zero-mul}
use Rattle.std.proofs.Math.Decide.{dec_lt}
use Rattle.std.proofs.lemmas.Bool.Decides.{Decides-ltb}
use Rattle.ddc_base.specs.Outside.{NamedFiles}
use Rattle.ddc_base.specs.Limits.{most_states}
use Rattle.checkpoints.proofs.Decisions.{chosen, is_at_most, passed}
use Rattle.guest_run.specs.Run.{End, Exited, Trapped, UnknownCall, after, end_at, first_end}
use Rattle.guest_run.specs.State.{GuestState}
use Rattle.guest_run.proofs.Endings.{end-counted}
use Rattle.guest_run.proofs.Running.{after-counted}
use Rattle.guest_run.proofs.RunLaws.{first_end-at, first_end-sum, no_end-goes_on, no_end_at-zero, stays}
use Rattle.guest_run.proofs.Starting.{starts_are}
use Rattle.recipe.specs.Kept.{IsRecipe}
use Rattle.recipe.specs.declared.parts.Stage.{Stage}
use Rattle.recipe.proofs.Keeps.{reads_keep}
use Rattle.audit_rules.specs.Contents.{box_of, program_of}
use Rattle.audit_rules.specs.Stages.{contents, start_stage}
use Rattle.audit_rules.specs.declared.cause.RunCause.{RunCause}
use Rattle.audit_rules.specs.declared.cause.RunCause.TheVariants as run
use Rattle.segments.specs.Segments.{second_text}
use Rattle.command_plan.specs.declared.status.Status.TheVariants.{TooManySegments, Yes}
use Rattle.command_plan.specs.Plan.{Outcome, Plan, answers, outcome, unless_refused}
use Rattle.command_plan.specs.Words.{as_steps, or_usage, usage}
use Rattle.stage_commands.specs.Cut.{came_on, cut_files, cut_from, cut_ready, next_steps, saved_from}
use Rattle.stage_commands.specs.CutEnds.{SaysSame, cut_end, cut_end_from}
use Rattle.stage_commands.specs.Cutting.{CutStart, cut_over}
use Rattle.stage_commands.specs.Exits.{output_left, run_ended, run_failed}
use Rattle.stage_commands.specs.Names.{are_stage_words, piece_name}
use Rattle.stage_commands.specs.States.{state_after}
use Rattle.stage_commands.specs.Texts.{cut_line, too_many_line}
use Rattle.stage_commands.proofs.CutWalk.{times_more}
use Rattle.stage_commands.proofs.Cutting.{few_steps}

-- the steps before an end
before_end : (guest to : GuestState) (most number : ℕ) (end : End) → number ≤ most → end_at guest number ≡ Some (end, to) → (guest.steps ≤ to.steps) × (to.steps + 1 ≤ guest.steps + most)
before_end guest to most zero end le is = absurd (no_end_at-zero guest (end, to) is)
before_end guest to most (suc count) end le is = let counted = end-counted guest to (suc count) end is in (omega (arith, counted), omega (arith, counted, le))

module _ (stage : Stage) (every : ℕ) (some : 1 ≤ every) where
  -- how many states stand before an end
  states_at : (number over : ℕ) → over < every → (number * every + over) / every ≡ number
  states_at number over less =
      let parts : (number * every + over) / every ≡ number + over / every = mul-add-div_right (omega (arith, some)) number over in
      let none : over / every ≡ 0 = div-eq_of_lt less in
      omega (arith, parts, none)

  states_before : (number steps : ℕ) → number * every ≤ steps → steps < number * every + every → steps / every ≡ number
  states_before number steps low high =
      let whole : steps ≡ number * every + (steps - number * every) = omega (arith, low) in
      ap (λ n. n / every) whole ∙ states_at number (steps - number * every) (omega (arith, low, high))

  -- the files play no part in what an end is told
  ended_same : (end : End) (to : GuestState) (n m : ℕ) (one other : NamedFiles) → n ≡ m
      → SaysSame (outcome (run_ended stage end to (λ _. answers Yes (cut_line n (to.steps + 1)))) one) (outcome (run_ended stage end to (λ _. answers Yes (cut_line m (to.steps + 1)))) other)
  ended_same (Trapped cause) to n m one other same = record { status = refl; text = refl }
  ended_same (UnknownCall number) to n m one other same = record { status = refl; text = refl }
  ended_same (Exited status) to n m one other same = by (output_left stage status to.world) where
    by : (left : Result (List ℕ) RunCause)
        → SaysSame (outcome (unless_refused left (λ cause. run_failed stage cause (to.steps + 1)) (λ _. answers Yes (cut_line n (to.steps + 1)))) one)
        (outcome (unless_refused left (λ cause. run_failed stage cause (to.steps + 1)) (λ _. answers Yes (cut_line m (to.steps + 1)))) other)
    by (Ok made) = record { status = refl; text = ap (λ k. cut_line k (to.steps + 1)) same }
    by (Err cause) = record { status = refl; text = refl }

  plan_same : (e : Option (End × GuestState)) (one other : NamedFiles) → SaysSame (outcome (cut_end stage every e) one) (outcome (cut_end stage every e) other)
  plan_same (Some (end, to)) one other = ended_same end to (to.steps / every + 1) (to.steps / every + 1) one other refl
  plan_same None one other = by (nat_le stage.steps (most_states * every)) where
    by : (spent : Bool) → SaysSame (outcome (cond spent (run_failed stage run.Spent stage.steps) (answers TooManySegments too_many_line)) one)
        (outcome (cond spent (run_failed stage run.Spent stage.steps) (answers TooManySegments too_many_line)) other)
    by true = record { status = refl; text = refl }
    by false = record { status = refl; text = refl }

  abbrev limit : ℕ
  limit = min (most_states * every) stage.steps

  -- a plan says over files what the run's first end from a state says
  abbrev Tells : Outcome → GuestState → NamedFiles → Type 0
  Tells came guest files = SaysSame came (outcome (cut_end stage every (first_end guest (limit - guest.steps))) files)

  -- from one end to the same
  tells_end : (came : Outcome) (guest : GuestState) (files : NamedFiles) (e : Option (End × GuestState)) → first_end guest (limit - guest.steps) ≡ e
      → SaysSame came (outcome (cut_end stage every e) files) → Tells came guest files
  tells_end came guest files e is says = subst (λ x. SaysSame came (outcome (cut_end stage every x) files)) (sym is) says

  abbrev spends : Plan
  spends = run_failed stage run.Spent stage.steps

  is_spent : stage.steps ≤ most_states * every → cut_end stage every None ≡ spends
  is_spent le = chosen (nat_le stage.steps (most_states * every)) (is_at_most stage.steps (most_states * every)) _ _ le

  is_many : most_states * every < stage.steps → cut_end stage every None ≡ answers TooManySegments too_many_line
  is_many less = passed (nat_le stage.steps (most_states * every)) (is_at_most stage.steps (most_states * every)) _ _ (λ le. omega (arith, le, less))

  says_plan : (plan other : Plan) (files : NamedFiles) → other ≡ plan → SaysSame (outcome plan files) (outcome other files)
  says_plan plan other files same = subst (λ p. SaysSame (outcome plan files) (outcome p files)) (sym same) (record { status = refl; text = refl })

  nothing_left : (guest : GuestState) (most : ℕ) → most ≡ 0 → first_end guest most ≡ None
  unfolding first_end
  nothing_left guest most none = ap (first_end guest) none

  module _ (prefix : List ℕ) where
    module _ (left number : ℕ) (guest : GuestState) (files : NamedFiles) (all : number + suc left ≡ most_states) (counted : guest.steps ≡ number * every) (below : guest.steps < stage.steps) where
      abbrev saved : NamedFiles
      saved = finite.insert files (piece_name prefix number) (second_text guest)

      abbrev rest : GuestState → Plan
      rest to = saved_from stage every prefix left (number + 1) to

      abbrev next : ℕ
      next = next_steps stage every guest

      budget : number * every + every + left * every ≡ most_states * every
      budget =
          let sum : number + 1 + left ≡ most_states = omega (arith, all) in
          let parts : (number + 1 + left) * every ≡ (number + 1) * every + left * every = add-mul (number + 1) left every in
          ap (λ n. n + left * every) (sym (times_more number every)) ∙ sym parts ∙ ap (λ n. n * every) sum

      went : (to : GuestState) → after guest next ≡ Some to → first_end guest next ≡ None
          → ((to : GuestState) → to.steps ≡ (number + 1) * every → to.steps < stage.steps → Tells (outcome (rest to) saved) to saved)
          → (b : Bool) → nat_lt to.steps stage.steps ≡ b → Tells (outcome (cond b (rest to) spends) saved) guest files
      went to there none later true lower =
          let less : to.steps < stage.steps = (Decides-ltb to.steps stage.steps).0 lower in
          let stepped : to.steps ≡ guest.steps + next = after-counted guest to next there in
          let full : next ≡ every = omega (arith, stepped, less, below) in
          let more = times_more number every in
          let at : to.steps ≡ (number + 1) * every = omega (arith, stepped, full, counted, more) in
          let says = later to at less in
          let reach = budget in
          let split : limit - guest.steps ≡ next + (limit - to.steps) = omega (arith, stepped, full, counted, reach, less) in
          let same : first_end guest (limit - guest.steps) ≡ first_end to (limit - to.steps) =
          ap (first_end guest) split ∙ first_end-sum guest to next (limit - to.steps) there in
          let files_same = plan_same (first_end to (limit - to.steps)) saved files in
          tells_end (outcome (rest to) saved) guest files (first_end to (limit - to.steps)) same
          (record { status = says.status ∙ files_same.status; text = says.text ∙ files_same.text })
      went to there none later false lower =
          let over : ¬ (to.steps < stage.steps) = λ less. let is = (Decides-ltb to.steps stage.steps).1 less in cc in
          let stepped : to.steps ≡ guest.steps + next = after-counted guest to next there in
          let reach = budget in
          let spent : limit - guest.steps ≡ next = omega (arith, stepped, over, below, counted, reach) in
          let fits : stage.steps ≤ most_states * every = omega (arith, stepped, over, below, counted, reach) in
          let same : first_end guest (limit - guest.steps) ≡ None = ap (first_end guest) spent ∙ none in
          let plans = says_plan spends (cut_end stage every None) saved (is_spent fits) in
          let files_same = plan_same None saved files in
          tells_end (outcome spends saved) guest files None same (record { status = plans.status ∙ files_same.status; text = plans.text ∙ files_same.text })

      by_end : ((to : GuestState) → to.steps ≡ (number + 1) * every → to.steps < stage.steps → Tells (outcome (rest to) saved) to saved)
          → (e : Option (End × GuestState)) → first_end guest next ≡ e → Tells (outcome (came_on stage (number + 1) e (state_after guest next) rest) saved) guest files
      by_end later (Some (end, to)) is =
          let at = first_end-at guest next (end, to) is in
          let bounds = before_end guest to next at.0 end at.1 at.2 in
          let low = bounds.0 in
          let high = bounds.1 in
          let reach = budget in
          let split : limit - guest.steps ≡ next + ((limit - guest.steps) - next) = omega (arith, counted, reach, below) in
          let whole : first_end guest (limit - guest.steps) ≡ Some (end, to) = ap (first_end guest) split ∙ stays guest next ((limit - guest.steps) - next) (end, to) is in
          let count : to.steps / every ≡ number = states_before number to.steps (omega (arith, low, counted)) (omega (arith, high, counted)) in
          tells_end (outcome (run_ended stage end to (λ _. answers Yes (cut_line (number + 1) (to.steps + 1)))) saved) guest files (Some (end, to)) whole
          (ended_same end to (number + 1) (to.steps / every + 1) saved files (ap (λ n. n + 1) (sym count)))
      by_end later None none =
          let on = no_end-goes_on guest next none in
          let at : state_after guest next ≡ on.0 = ap (λ o. unwrap_or o guest) on.1 in
          subst (λ to. Tells (outcome (came_on stage (number + 1) None to rest) saved) guest files) (sym at) (went on.0 on.1 none later (nat_lt on.0.steps stage.steps) refl)

    ends_so : (left number : ℕ) (guest : GuestState) (files : NamedFiles) → number + left ≡ most_states → guest.steps ≡ number * every → guest.steps < stage.steps
        → Tells (outcome (saved_from stage every prefix left number guest) files) guest files
    unfolding saved_from
    ends_so zero number guest files all counted below =
        let full : number ≡ most_states = omega (arith, all) in
        let at : guest.steps ≡ most_states * every = counted ∙ ap (λ n. n * every) full in
        tells_end (outcome (answers TooManySegments too_many_line) files) guest files None (nothing_left guest (limit - guest.steps) (omega (arith, at)))
        (says_plan (answers TooManySegments too_many_line) (cut_end stage every None) files (is_many (omega (arith, at, below))))
    ends_so (suc left) number guest files all counted below =
        by_end left number guest files all counted below
        (λ to at less. ends_so left (number + 1) to (finite.insert files (piece_name prefix number) (second_text guest)) (omega (arith, all)) at less)
        (first_end guest (next_steps stage every guest)) refl

pub cut_ends : (recipe stage every prefix : List ℕ) (files : NamedFiles) (start : CutStart recipe stage prefix files) (steps : ℕ) → as_steps every ≡ Some steps
    → IsTrue (are_stage_words recipe stage prefix) → SaysSame (cut_over recipe stage every prefix files) (outcome (cut_end_from start.named steps start.begun) files)
unfolding cut_files cut_ready
cut_ends recipe stage every prefix files start steps are words =
    let r = start.ready in
    let kept : IsRecipe r.recipe = reads_keep start.begins.text r.recipe start.begins.parsed in
    let fits = (kept.stages (length r.done) start.named start.there).some_steps in
    let fresh : start.begun.steps ≡ 0 =
    starts_are (program_of r.recipe (contents r.inputs r.done) start.named) (box_of r.recipe (contents r.inputs r.done) start.named) start.begun start.starts in
    let some = (few_steps every steps are).0 in
    let none : 0 * steps ≡ 0 = zero-mul steps in
    let parsed = ends_so start.named steps some prefix most_states 0 start.begun files refl (fresh ∙ sym none) (omega (arith, fresh, fits)) in
    let most : min (most_states * steps) start.named.steps - start.begun.steps ≡ min (most_states * steps) start.named.steps = omega (arith, fresh) in
    let comes : cut_over recipe stage every prefix files ≡ outcome (saved_from start.named steps prefix most_states 0 start.begun) files =
    ap (λ w. outcome (or_usage w (λ s. cond (are_stage_words recipe stage prefix) (cut_files recipe stage s prefix) usage)) files) are
    ∙ ap (λ b. outcome (cond b (cut_files recipe stage steps prefix) usage) files) words
    ∙ start.found (cut_ready steps prefix)
    ∙ ap (λ p. outcome (or_usage p (λ of. cut_from of steps prefix (start_stage r.recipe (contents r.inputs r.done) of))) files) start.there
    ∙ ap (λ s. outcome (cut_from start.named steps prefix s) files) start.starts in
    subst (λ (o : Outcome). SaysSame o (outcome (cut_end_from start.named steps start.begun) files)) (sym comes)
    (subst (λ n. SaysSame (outcome (saved_from start.named steps prefix most_states 0 start.begun) files) (outcome (cut_end start.named steps (first_end start.begun n)) files)) most parsed)

-- 14 comes exactly where 1,000 times EVERY steps go on below the limit
module _ (stage : Stage) (every : ℕ) (files : NamedFiles) where
  never_many : (end : End) (to : GuestState) (saved : ℕ) → (outcome (run_ended stage end to (λ _. answers Yes (cut_line saved (to.steps + 1)))) files).status ≡ TooManySegments → ⊥
  never_many (Trapped cause) to saved is = cc
  never_many (UnknownCall number) to saved is = cc
  never_many (Exited status) to saved is = by (output_left stage status to.world) is where
    by : (left : Result (List ℕ) RunCause)
        → (outcome (unless_refused left (λ cause. run_failed stage cause (to.steps + 1)) (λ _. answers Yes (cut_line saved (to.steps + 1)))) files).status ≡ TooManySegments → ⊥
    by (Ok made) is = cc
    by (Err cause) is = cc

  abbrev GoesOn : GuestState → Type 0
  GoesOn begun = (first_end begun (most_states * every) ≡ None) × (most_states * every < stage.steps)

  many_shown : (some : 1 ≤ every) (begun : GuestState) → (outcome (cut_end_from stage every begun) files).status ≡ TooManySegments → GoesOn begun
  many_shown some begun is = by (first_end begun (min (most_states * every) stage.steps)) refl is where
    by : (e : Option (End × GuestState)) → first_end begun (min (most_states * every) stage.steps) ≡ e → (outcome (cut_end stage every e) files).status ≡ TooManySegments → GoesOn begun
    by (Some (end, to)) ends is = absurd (never_many end to (to.steps / every + 1) is)
    by None none is = elim (dec_lt (most_states * every) stage.steps) [
      | yes less ↦ (ap (first_end begun) (omega (arith, less)) ∙ none, less)
      | no not ↦ absurd (let status = ap (λ p. (outcome p files).status) (sym (is_spent stage every some (omega (arith, not)))) ∙ is in cc)
    ]

  many_reported : (some : 1 ≤ every) (begun : GuestState) → GoesOn begun → (outcome (cut_end_from stage every begun) files).status ≡ TooManySegments
  many_reported some begun (none, less) =
      let most : min (most_states * every) stage.steps ≡ most_states * every = omega (arith, less) in
      ap (λ n. (outcome (cut_end stage every (first_end begun n)) files).status) most
      ∙ ap (λ e. (outcome (cut_end stage every e) files).status) none
      ∙ ap (λ p. (outcome p files).status) (is_many stage every some less)

pub cut_goes_on : (recipe stage every prefix : List ℕ) (files : NamedFiles) (start : CutStart recipe stage prefix files) (steps : ℕ) → as_steps every ≡ Some steps
    → IsTrue (are_stage_words recipe stage prefix)
    → ((cut_over recipe stage every prefix files).status ≡ TooManySegments) ↔ ((first_end start.begun (most_states * steps) ≡ None) × (most_states * steps < start.named.steps))
cut_goes_on recipe stage every prefix files start steps are words =
    let parsed = cut_ends recipe stage every prefix files start steps are words in
    let some = (few_steps every steps are).0 in (
      λ is. many_shown start.named steps files some start.begun (sym parsed.status ∙ is),
      λ goes. parsed.status ∙ many_reported start.named steps files some start.begun goes,
    )
