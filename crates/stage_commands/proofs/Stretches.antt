-- Saved states in a row, and the steps between them.
use Rattle.std.proofs.Common.{◌≡◌, ℕ, suc, ◌+◌, ◌-◌, ◌<◌, ◌≤◌, Some, None, Ok, Err, List, unwrap_or, refl, sym, ap, ◌∙◌, subst, arith}
use Rattle.std.specs.Prelude.{nat_lt}
use Rattle.std.proofs.lemmas.Bool.Decides.{Decides-ltb}
use Rattle.ddc_base.specs.Outside.{ShelfState}
use Rattle.ddc_base.specs.Limits.{most_states}
use Rattle.guest_run.specs.declared.run.RunEnd.{RunEnd}
use Rattle.guest_run.specs.declared.run.RunEnd.TheVariants as ending
use Rattle.guest_run.specs.Run.{End, Exited, Trapped, UnknownCall, Runs, after, first_end}
use Rattle.guest_run.specs.State.{GuestState}
use Rattle.guest_run.proofs.Endings.{end-counted}
use Rattle.guest_run.proofs.RunLaws.{first_end-at}
use Rattle.checkpoints.proofs.Decisions.{chosen, passed}
use Rattle.recipe.specs.declared.parts.Stage.{Stage}
use Rattle.audit_rules.specs.declared.cause.RunCause.TheVariants as run
use Rattle.segments.specs.Segments.{EndsWith, IsRunsEnd, second_text}
use Rattle.command_plan.specs.declared.answer.Answer.{Answer}
use Rattle.command_plan.specs.declared.stop.Stop.{Stop}
use Rattle.command_plan.specs.declared.stop.Stop.TheVariants as stop
use Rattle.command_plan.specs.declared.status.Status.TheVariants.{TooManySegments, Yes}
use Rattle.command_plan.specs.Performs.{Performs}
use Rattle.command_plan.specs.Plan.{Plan, answers, sets}
use Rattle.command_plan.specs.Steps.{Saves, SaysBy}
use Rattle.command_plan.proofs.Gathering.{GoesOnAs, ends_as, ends_at_one, goes_on_saved}
use Rattle.command_plan.proofs.Performing.{says, wants_memory}
use Rattle.stage_commands.specs.Cut.{came_on, next_steps, saved_from}
use Rattle.stage_commands.specs.Exits.{run_ended, run_failed}
use Rattle.stage_commands.specs.Names.{piece_name}
use Rattle.stage_commands.specs.States.{state_after}
use Rattle.stage_commands.specs.Texts.{cut_line, too_many_line}

-- ---- the steps after a saved state

module _ (stage : Stage) (saved every : ℕ) (old new : GuestState) where
  abbrev pub following : (GuestState → Plan) → Plan
  following next = came_on stage saved (first_end old (next_steps stage every old)) (state_after old (next_steps stage every old)) next

  pub ended_so : (end : End) → first_end old (next_steps stage every old) ≡ Some (end, new) → (next : GuestState → Plan)
      → following next ≡ run_ended stage end new (λ _. answers Yes (cut_line saved (new.steps + 1)))
  ended_so end is next = ap (λ e. came_on stage saved e (state_after old (next_steps stage every old)) next) is

  module _ (none : first_end old (next_steps stage every old) ≡ None) (there : after old (next_steps stage every old) ≡ Some new) where
    came_to : (next : GuestState → Plan) → following next ≡ came_on stage saved None new next
    came_to next = λ i. came_on stage saved (none i) (unwrap_or (there i) old) next

    pub goes_on_so : new.steps < stage.steps → (next : GuestState → Plan) → following next ≡ next new
    goes_on_so below next = came_to next ∙ chosen (nat_lt new.steps stage.steps) (Decides-ltb new.steps stage.steps) _ _ below

    pub spends : ¬ (new.steps < stage.steps) → (next : GuestState → Plan) → following next ≡ run_failed stage run.Spent stage.steps
    spends over next = came_to next ∙ passed (nat_lt new.steps stage.steps) (Decides-ltb new.steps stage.steps) _ _ over

-- ---- saved states in a row

module _ (stage : Stage) (every : ℕ) (prefix : List ℕ) where
  -- what is left of the plan at the state of a number
  abbrev pub rest_at : ℕ → GuestState → Plan
  rest_at number guest = saved_from stage every prefix (most_states - number) number guest

  saves_one : (number : ℕ) (guest : GuestState) → number < most_states
      → rest_at number guest ≡ sets (piece_name prefix number) (second_text guest) (following stage (number + 1) every guest guest (rest_at (number + 1)))
  unfolding saved_from
  saves_one number guest less =
      let more : most_states - number ≡ suc (most_states - (number + 1)) = omega (arith, less) in
      ap (λ left. saved_from stage every prefix left number guest) more

  -- none may be saved any more
  pub none_left : (number : ℕ) (guest : GuestState) (text : List ℕ) → most_states ≤ number → text ≡ too_many_line → SaysBy (rest_at number guest) (Ok (record { status = TooManySegments; text = text; answered = refl }))
  unfolding saved_from
  none_left number guest text all is =
      let none : most_states - number ≡ 0 = omega (arith, all) in
      ap (λ left. saved_from stage every prefix left number guest) none ∙ ap (answers TooManySegments) (sym is)

  module _ (plan : Plan) (old now : ShelfState) (number : ℕ) (guest : GuestState) (leads : GoesOnAs plan (rest_at number guest) old now) (less : number < most_states) where
    here : GoesOnAs plan (sets (piece_name prefix number) (second_text guest) (following stage (number + 1) every guest guest (rest_at (number + 1)))) old now
    here = subst (λ p. GoesOnAs plan p old now) (saves_one number guest less) leads

    -- a save that ends the command
    pub ends_there : (new : ShelfState) (why : Stop) → Saves (piece_name prefix number) (second_text guest) now new (Err why) → Performs plan old new (Err why)
    ends_there new why s = ends_at_one plan (piece_name prefix number) (second_text guest) (following stage (number + 1) every guest guest (rest_at (number + 1))) old now here new why s

    module _ (mid : ShelfState) (done : Unit {0}) (s : Saves (piece_name prefix number) (second_text guest) now mid (Ok done)) where
      saved_one : GoesOnAs plan (following stage (number + 1) every guest guest (rest_at (number + 1))) old mid
      saved_one = goes_on_saved plan (piece_name prefix number) (second_text guest) (following stage (number + 1) every guest guest (rest_at (number + 1))) old now here mid done s

      -- an answer after it, want of memory, or the next state
      pub answers_after : (answer : Answer) → ((next : GuestState → Plan) → following stage (number + 1) every guest guest next ≡ answers answer.status answer.text)
          → Performs plan old mid (Ok answer)
      answers_after answer is =
          ends_as plan (following stage (number + 1) every guest guest (rest_at (number + 1))) old mid saved_one mid (Ok answer)
          (says (following stage (number + 1) every guest guest (rest_at (number + 1))) mid (Ok answer) (record { by_result = is (rest_at (number + 1)) }))

      pub wants_after : (why : Stop) → why ≡ stop.OutOfMemory → Performs plan old mid (Err why)
      wants_after why is =
          subst (λ w. Performs plan old mid (Err w)) (sym is)
          (ends_as plan (following stage (number + 1) every guest guest (rest_at (number + 1))) old mid saved_one mid (Err stop.OutOfMemory)
          (wants_memory (following stage (number + 1) every guest guest (rest_at (number + 1))) mid))

      pub next_one : (to : GuestState) → ((next : GuestState → Plan) → following stage (number + 1) every guest guest next ≡ next to)
          → GoesOnAs plan (rest_at (number + 1) to) old mid
      next_one to is = subst (λ p. GoesOnAs plan p old mid) (is (rest_at (number + 1))) saved_one

-- ---- the step of an end fits

fits : (from guest : GuestState) (most : ℕ) (end : End) → first_end from most ≡ Some (end, guest) → guest.steps + 1 ≤ from.steps + most
fits from guest most end is =
    let at = first_end-at from most (end, guest) is in
    let counted = end-counted from guest at.0 end at.2 in
    omega (arith, counted, at.1)

pub end_fits : (text : List ℕ) (limit : ℕ) (guest : GuestState) (why : RunEnd) → EndsWith text limit guest why → guest.steps + 1 ≤ limit
end_fits text limit guest why e = by why e.end e.ends where
  within : guest.steps + 1 ≤ e.from.steps + (limit - e.from.steps) → guest.steps + 1 ≤ limit
  within le = omega (arith, le, e.below)

  by : (why : RunEnd) → IsRunsEnd why → Runs e.from (limit - e.from.steps) why guest → guest.steps + 1 ≤ limit
  by (ending.Exited status) is runs = within (fits e.from guest (limit - e.from.steps) (Exited status) runs)
  by (ending.Trapped cause) is runs = within (fits e.from guest (limit - e.from.steps) (Trapped cause) runs)
  by (ending.UnknownCall number) is runs = within (fits e.from guest (limit - e.from.steps) (UnknownCall number) runs)
  by ending.Spent is runs = absurd is
  by ending.OutOfMemory is runs = absurd is
