-- Where a session stands.
use Rattle.std.proofs.Common.{◌≡◌, ◌∙◌, ℕ, zero, suc, ◌+◌, ◌-◌, ◌<◌, ◌≤◌, ◌^◌, false, min, refl, Option, Some, None, Result, Ok, Err, IfOk, List, sym, ap, subst, arith}
use Rattle.guest_run.specs.declared.run.RunEnd.{RunEnd}
use Rattle.guest_run.specs.Setting.{Setting}
use Rattle.guest_run.specs.Start.{Refusal, start_of}
use Rattle.guest_run.specs.State.{GuestState}
use Rattle.guest_run.specs.Run.{End, Ends, after, end_at, first_end, next}
use Rattle.ddc_base.specs.declared.byte_list.OutOfMemory.{OutOfMemory}
use Rattle.ddc_base.specs.Limits.{most_steps}
use Rattle.std.proofs.Math.Nat.{min-le_right}
use Rattle.guest_run.proofs.Going.{ended, leads-after, on, spent}
use Rattle.guest_run.proofs.Running.{after-none, after-counted, before}
use Rattle.guest_run.proofs.RunLaws.{after-sum, ends_after, first_end-at, no_end_at-zero, no_end-goes_on, stays}
use Rattle.std.specs.Prelude.{nat_lt}
use Rattle.std.proofs.lemmas.Bool.Decides.{nat_tests}
use Rattle.step_debug.specs.Replies.{where_line}
use Rattle.step_debug.specs.declared.command.SessionCommand.TheVariants.{Back, Step}
use Rattle.step_debug.specs.Sessions.{IsSession, SessionState, after_start, at_state, came, came_text, gone, obeyed, session_start, state_of_step}
use Rattle.guest_run.specs.Travels.{Travels, travel}

same-Ok : (a b : GuestState) (r : Result GuestState Refusal) → r ≡ Ok a → r ≡ Ok b → a ≡ b
same-Ok a b r one other = let both : ◌≡◌ {A = Result GuestState Refusal} (Ok a) (Ok b) = sym one ∙ other in cc

-- a session at the start
pub fresh : (program : List ℕ) (setting : Setting) (limit : ℕ) (start : GuestState) → start_of program setting ≡ Ok start → start.steps ≡ 0 → limit ≤ most_steps
    → IsSession (session_start program setting limit start)
fresh program setting limit start starts none few = record {
  start = start;
  starts = starts;
  fresh = none;
  reached = ap (after start) none ∙ after-none start;
  within = omega (arith, none);
  few = few;
}

-- one that went on
pub further : (session : SessionState) (stop : Option ℕ) (most wanted taken : ℕ) (end : RunEnd) (to : GuestState) → IsSession session → Travels stop session.at most end to
    → most ≡ min wanted (session.limit - taken) → taken ≡ session.at.steps → IsSession (at_state session to)
further session stop most wanted taken end to s t is counted =
    let all : after s.start (session.at.steps + t.count) ≡ Some to = after-sum s.start session.at session.at.steps t.count s.reached ∙ t.reached in
    let le : most ≤ session.limit - taken = subst (λ n. n ≤ session.limit - taken) (sym is) (min-le_right wanted (session.limit - taken)) in
    record {
      start = s.start;
      starts = s.starts;
      fresh = s.fresh;
      reached = ap (after s.start) t.counted ∙ all;
      within = omega (arith, t.counted, t.few, le, counted, s.within);
      few = s.few;
    }

-- a state on the way
earlier : (guest to : GuestState) (count more : ℕ) → after guest (count + more) ≡ Some to → (last : GuestState) × (after guest count ≡ Some last)
earlier guest to count zero is = let all : count + 0 ≡ count = omega arith in (to, ap (after guest) (sym all) ∙ is)
earlier guest to count (suc more) is =
    let all : count + suc more ≡ suc (count + more) = omega arith in
    let one = before guest to (count + more) (ap (after guest) (sym all) ∙ is) in
    earlier guest one.0 count more one.1

pub on_the_way : (session : SessionState) (start : GuestState) (count : ℕ) → IsSession session → start_of session.program session.setting ≡ Ok start → count ≤ session.at.steps
    → (last : GuestState) × (after start count ≡ Some last)
on_the_way session start count s starts le =
    let same : s.start ≡ start = same-Ok s.start start _ s.starts starts in
    let all : count + (session.at.steps - count) ≡ session.at.steps = omega (arith, le) in
    earlier start session.at count (session.at.steps - count) (ap (after start) all ∙ ap (λ g. after g session.at.steps) (sym same) ∙ s.reached)

-- one that came back
pub back : (session : SessionState) (guest : GuestState) (count : ℕ) → IsSession session → state_of_step session count ≡ Some guest → guest.steps ≡ count → count ≤ session.at.steps
    → IsSession (at_state session guest)
back session guest count s is counted le = record {
  start = s.start;
  starts = s.starts;
  fresh = s.fresh;
  reached = ap (after s.start) counted ∙ ap (λ r. after_start r count) (sym s.starts) ∙ is;
  within = omega (arith, counted, le, s.within);
  few = s.few;
}

-- ---- steps that are taken again

-- no end comes among them
pub no_other : (guest last new : GuestState) (count : ℕ) (end : End) → after guest count ≡ Some last → travel None guest count ≡ (Some end, new) → ⊥
no_other guest last new count end there other =
    let both : ◌≡◌ {A = Option End × GuestState} (None, last) (Some end, new) = sym (spent count guest last there) ∙ other in
    let gone : ◌≡◌ {A = Option End} None (Some end) = ap (λ e. e.0) both in
    cc

pub the_same : (guest last new : GuestState) (count : ℕ) → after guest count ≡ Some last → travel None guest count ≡ (None, new) → after guest count ≡ Some new
the_same guest last new count there is =
    let both : ◌≡◌ {A = Option End × GuestState} (None, last) (None, new) = sym (spent count guest last there) ∙ is in
    there ∙ ap (λ e. Some e.1) both

pub steps_of : (guest : GuestState) (count : ℕ) (result : Result GuestState OutOfMemory) → guest.steps ≡ 0 → IfOk result (λ new. after guest count ≡ Some new) → IfOk result (λ new. new.steps ≡ count)
steps_of guest count (Ok new) none there = let counted = after-counted guest new count there in omega (arith, counted, none)
steps_of guest count (Err error) none there = tt

-- ---- back and on again

gone_to : (session : SessionState) (guest : GuestState) (most : ℕ) → after session.at most ≡ Some guest → session.at.steps + most ≤ session.limit
    → (wanted : ℕ) → min wanted (session.limit - session.at.steps) ≡ most → gone session None wanted ≡ (came_text session.limit (None, guest), at_state session guest)
gone_to session guest most there fits wanted is =
    ap (λ n. came session (travel None session.at n)) is ∙ ap (came session) (spent most session.at guest there)

not_less : (a b : ℕ) → b ≤ a → nat_lt a b ≡ false
not_less a b le = grind (arith, nat_tests)

came_back : (session : SessionState) (guest : GuestState) (count : ℕ) → nat_lt session.at.steps count ≡ false
    → state_of_step session (session.at.steps - count) ≡ Some guest → obeyed session (Back count) ≡ (where_line guest, at_state session guest)
came_back session guest count le there = rw (le, there) refl

pub again : (session : SessionState) (count : ℕ) → IsSession session → count ≤ session.at.steps
    → obeyed (obeyed session (Back count)).1 (Step count) ≡ (came_text session.limit (None, session.at), session)
again session count s le =
    let way = on_the_way session s.start (session.at.steps - count) s s.starts (omega arith) in
    let there : state_of_step session (session.at.steps - count) ≡ Some way.0 = ap (λ r. after_start r (session.at.steps - count)) s.starts ∙ way.1 in
    let counted : way.0.steps ≡ session.at.steps - count = after-counted s.start way.0 (session.at.steps - count) way.1 ∙ omega (arith, s.fresh) in
    let whole : session.at.steps - count + count ≡ session.at.steps = omega (arith, le) in
    let on : after way.0 count ≡ Some session.at = sym (after-sum s.start way.0 (session.at.steps - count) count way.1) ∙ ap (after s.start) whole ∙ s.reached in
    ap (λ (r : List ℕ × SessionState). obeyed r.1 (Step count)) (came_back session way.0 count (not_less session.at.steps count le) there)
    ∙ gone_to (at_state session way.0) session.at count on (omega (arith, counted, le, s.within)) count (omega (arith, counted, le, s.within))

-- ---- steps in parts

-- where an end is found
ends_at : (guest last : GuestState) (end : End) (most : ℕ) → first_end guest most ≡ Some (end, last)
    → (count : ℕ) × (count < most) × (after guest count ≡ Some last) × (next last ≡ Ends end)
ends_at guest last end most is = let at = first_end-at guest most (end, last) is in by_number at.0 at.1 at.2 where
  by_number : (number : ℕ) → number ≤ most → end_at guest number ≡ Some (end, last) → (count : ℕ) × (count < most) × (after guest count ≡ Some last) × (next last ≡ Ends end)
  by_number zero le at = absurd (no_end_at-zero guest (end, last) at)
  by_number (suc count) le at = let here = ends_after guest count (end, last) at in (count, omega arith, here.0, here.1)

-- it comes again
comes_again : (last : GuestState) (end : End) (most : ℕ) → next last ≡ Ends end → 1 ≤ most → travel None last most ≡ (Some end, last)
comes_again last end zero is some = absurd (omega arith)
comes_again last end (suc most) is some = on None last most (Ends end) is

pub in_parts : (session : SessionState) (first more : ℕ) → IsSession session → 1 ≤ more
    → obeyed (obeyed session (Step first)).1 (Step more) ≡ obeyed session (Step (first + more))
in_parts session first more s some = by_first (first_end session.at most) refl
  where
    left : ℕ
    left = session.limit - session.at.steps

    most : ℕ
    most = min first left

    by_first : (o : Option (End × GuestState)) → first_end session.at most ≡ o
        → obeyed (obeyed session (Step first)).1 (Step more) ≡ obeyed session (Step (first + more))
    by_first None was =
        let on = no_end-goes_on session.at most was in
        let counted = after-counted session.at on.0 most on.1 in
        let sum : most + min more (session.limit - on.0.steps) ≡ min (first + more) left = omega (arith, counted, s.within) in
        ap (λ (r : List ℕ × SessionState). obeyed r.1 (Step more)) (ap (came session) (spent most session.at on.0 on.1))
        ∙ ap (came session) (sym ((leads-after session.at on.0 most on.1).same (min more (session.limit - on.0.steps))) ∙ ap (travel None session.at) sum)
    by_first (Some (end, last)) was =
        let at = ends_at session.at last end most was in
        let counted = after-counted session.at last at.0 at.2 in
        let again : 1 ≤ min more (session.limit - last.steps) = omega (arith, counted, at.1, s.within, some) in
        let sum : min (first + more) left ≡ most + (min (first + more) left - most) = omega arith in
        let whole : first_end session.at (min (first + more) left) ≡ Some (end, last) = ap (first_end session.at) sum ∙ stays session.at most (min (first + more) left - most) (end, last) was in
        ap (λ (r : List ℕ × SessionState). obeyed r.1 (Step more)) (ap (came session) (ended most session.at last end was))
        ∙ ap (came session) (comes_again last end (min more (session.limit - last.steps)) at.3 again)
        ∙ sym (ap (came session) (ended (min (first + more) left) session.at last end whole))
