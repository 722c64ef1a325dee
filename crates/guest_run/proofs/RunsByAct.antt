-- Runs by a machine of RV64I and M alone are runs.
use Rattle.std.proofs.Common.{◌≡◌, ℕ, zero, suc, Option, None, Some, List, refl, sym, ap, ◌∙◌}
use Rattle.std.specs.Prelude.{option_and_then, ◌↔◌}
use Rattle.std.proofs.lemmas.Option.{same_Some}
use Rattle.mem_files.specs.World.{World}
use Rattle.rv64_machine.specs.Hart.{Act, act}
use Rattle.rv64_machine.specs.Hart as hart
use Rattle.rv64_machine.specs.WithoutAtomics.{act_without_atomics}
use Rattle.rv64_machine.proofs.ActsWithoutAtomics.{acts-stand}
use Rattle.guest_run.specs.Setting.{Setting}
use Rattle.guest_run.specs.State.{GuestState}
use Rattle.guest_run.specs.Run.{End, Exited, Trapped, UnknownCall, Next, Goes, Ends, after, end_at, end_of, next, step_of_act, went_to}
use Rattle.guest_run.specs.ByAct.{ProgramRunBy, after_by, end_at_by, next_by}
use Rattle.guest_run.specs.Program.{ProgramRun}

-- ---- by `act` a run is the run

next-same : (guest : GuestState) → next_by act guest ≡ next guest
unfolding next next_by
next-same guest = refl

after-same : (guest : GuestState) (count : ℕ) → after_by act guest count ≡ after guest count
unfolding after after_by
after-same guest zero = refl
after-same guest (suc count) = λ i. option_and_then (λ last. went_to (next-same last i)) (after-same guest count i)

end-same : (guest : GuestState) (number : ℕ) → end_at_by act guest number ≡ end_at guest number
unfolding end_at end_at_by
end-same guest zero = refl
end-same guest (suc count) = λ i. option_and_then (λ last. end_of last (next-same last i)) (after-same guest count i)

pub by_act : (program : List ℕ) (setting : Setting) (n s : ℕ) (world : World)
    → ProgramRunBy act program setting n s world ↔ ProgramRun program setting n s world
by_act program setting n s world = (
  λ run. record { start = run.start; last = run.last; starts = run.starts; ends = sym (end-same run.start n) ∙ run.ends; leaves = run.leaves },
  λ run. record { start = run.start; last = run.last; starts = run.starts; ends = end-same run.start n ∙ run.ends; leaves = run.leaves },
)

-- ---- a step that goes on, or exits, without the atomic rows is the step

goes : (guest to : GuestState) → next_by act_without_atomics guest ≡ Goes to → next guest ≡ Goes to
unfolding next next_by
goes guest to is = by_act_of (act_without_atomics guest.hart) refl is
  where
    by_act_of : (a : Act) → act_without_atomics guest.hart ≡ a → step_of_act guest a ≡ Goes to → step_of_act guest (act guest.hart) ≡ Goes to
    by_act_of (hart.GoesOn after) was e = ap (step_of_act guest) ((acts-stand guest.hart).goes after was).0 ∙ e
    by_act_of hart.Calls was e = ap (step_of_act guest) ((acts-stand guest.hart).calls was) ∙ e
    by_act_of (hart.Traps cause) was e = absurd cc

exits : (guest : GuestState) (s : ℕ) → next_by act_without_atomics guest ≡ Ends (Exited s) → next guest ≡ Ends (Exited s)
unfolding next next_by
exits guest s is = by_act_of (act_without_atomics guest.hart) refl is
  where
    by_act_of : (a : Act) → act_without_atomics guest.hart ≡ a → step_of_act guest a ≡ Ends (Exited s) → step_of_act guest (act guest.hart) ≡ Ends (Exited s)
    by_act_of (hart.GoesOn after) was e = absurd cc
    by_act_of hart.Calls was e = ap (step_of_act guest) ((acts-stand guest.hart).calls was) ∙ e
    by_act_of (hart.Traps cause) was e = absurd cc

-- ---- and so are many of them

after-stands : (guest to : GuestState) (count : ℕ) → after_by act_without_atomics guest count ≡ Some to → after guest count ≡ Some to
unfolding after after_by
after-stands guest to zero is = is
after-stands guest to (suc count) is = by_last (after_by act_without_atomics guest count) refl is (λ last was. after-stands guest last count was)
  where
    by_next : (last : GuestState) (n : Next) → next_by act_without_atomics last ≡ n → went_to n ≡ Some to → went_to (next last) ≡ Some to
    by_next last (Goes on) was e = ap went_to (goes last on was) ∙ e
    by_next last (Ends end) was e = absurd cc

    by_last : (o : Option GuestState) → after_by act_without_atomics guest count ≡ o
        → option_and_then (λ last. went_to (next_by act_without_atomics last)) o ≡ Some to
        → ((last : GuestState) → after_by act_without_atomics guest count ≡ Some last → after guest count ≡ Some last)
        → option_and_then (λ last. went_to (next last)) (after guest count) ≡ Some to
    by_last None was e earlier = absurd cc
    by_last (Some last) was e earlier =
        ap (λ o. option_and_then (λ l. went_to (next l)) o) (earlier last was) ∙ by_next last (next_by act_without_atomics last) refl e

exit-stands : (guest last : GuestState) (number s : ℕ) → end_at_by act_without_atomics guest number ≡ Some (Exited s, last)
    → end_at guest number ≡ Some (Exited s, last)
unfolding end_at end_at_by
exit-stands guest last zero s is = absurd cc
exit-stands guest last (suc count) s is = by_state (after_by act_without_atomics guest count) refl is
  where
    other : (why : End) (at : GuestState) → ◌≡◌ {A = Option (End × GuestState)} (Some (why, at)) (Some (Exited s, last)) → why ≡ Exited s
    other why at e = ap (λ (p : End × GuestState). p.0) (same_Some (why, at) (Exited s, last) e)

    by_next : (at : GuestState) (n : Next) → next_by act_without_atomics at ≡ n → end_of at n ≡ Some (Exited s, last) → end_of at (next at) ≡ Some (Exited s, last)
    by_next at (Goes to) was e = absurd cc
    by_next at (Ends (Exited status)) was e = ap (end_of at) (exits at status was) ∙ e
    by_next at (Ends (Trapped cause)) was e = let why = other (Trapped cause) at e in absurd cc
    by_next at (Ends (UnknownCall number)) was e = let why = other (UnknownCall number) at e in absurd cc

    by_state : (o : Option GuestState) → after_by act_without_atomics guest count ≡ o
        → option_and_then (λ at. end_of at (next_by act_without_atomics at)) o ≡ Some (Exited s, last)
        → option_and_then (λ at. end_of at (next at)) (after guest count) ≡ Some (Exited s, last)
    by_state None was e = absurd cc
    by_state (Some at) was e =
        ap (λ o. option_and_then (λ g. end_of g (next g)) o) (after-stands guest at count was) ∙ by_next at (next_by act_without_atomics at) refl e

pub runs-stand : (program : List ℕ) (setting : Setting) (n s : ℕ) (world : World)
    → ProgramRunBy act_without_atomics program setting n s world → ProgramRun program setting n s world
runs-stand program setting n s world run = record {
  start = run.start;
  last = run.last;
  starts = run.starts;
  ends = exit-stands run.start run.last n s run.ends;
  leaves = run.leaves;
}
