-- Laws of many steps.
use Rattle.std.proofs.Common.{◌≡◌, ◌≢◌, ℕ, zero, suc, ◌+◌, ◌≤◌, Option, None, Some, refl, sym, ap, ◌∙◌, arith, subst}
use Rattle.std.specs.Prelude.{option_and_then}
use Rattle.std.specs.Option.{option_or}
use Rattle.std.proofs.lemmas.Option.{same_Some}
use Rattle.guest_run.specs.declared.run.RunEnd.{RunEnd}
use Rattle.guest_run.specs.declared.run.RunEnd.TheVariants.{Exited, Trapped, UnknownCall, Spent, OutOfMemory}
use Rattle.guest_run.specs.State.{GuestState}
use Rattle.guest_run.specs.Run.{End, Next, Goes, Ends, after, end_at, end_of, first_end, next, Runs, steps_between, went_to}
use Rattle.guest_run.proofs.Running.{after-counted, end_at-next, found, goes_on-no_end}

pub after-sum : (guest between : GuestState) (first more : ℕ) → after guest first ≡ Some between
    → after guest (first + more) ≡ after between more
unfolding after
after-sum guest between first zero reached =
    let same : first + 0 ≡ first = omega arith in
    ap (after guest) same ∙ reached
after-sum guest between first (suc more) reached =
    let same : first + suc more ≡ suc (first + more) = omega arith in
    ap (after guest) same ∙ ap (λ o. option_and_then (λ l. went_to (next l)) o) (after-sum guest between first more reached)

-- what an end is: steps that went on, and one that did not
abbrev pub EndsAfter : GuestState → ℕ → End × GuestState → Type 0
EndsAfter guest count end = (after guest count ≡ Some end.1) × (next end.1 ≡ Ends end.0)

pub ends_after : (guest : GuestState) (count : ℕ) (end : End × GuestState) → end_at guest (suc count) ≡ Some end → EndsAfter guest count end
unfolding end_at
ends_after guest count end is = by_last (after guest count) refl is where
  by_next : (last : GuestState) (n : Next) → after guest count ≡ Some last → next last ≡ n → end_of last n ≡ Some end → EndsAfter guest count end
  by_next last (Goes to) reached went is = absurd cc
  by_next last (Ends why) reached ends is =
      let same : ◌≡◌ {A = End × GuestState} (why, last) end = same_Some (why, last) end is in
      subst (λ e. EndsAfter guest count e) same (reached, ends)

  by_last : (o : Option GuestState) → after guest count ≡ o → option_and_then (λ l. end_of l (next l)) o ≡ Some end → EndsAfter guest count end
  by_last None was is = absurd cc
  by_last (Some last) was is = by_next last (next last) was refl is

pub no_end_at-zero : (guest : GuestState) (end : End × GuestState) → end_at guest zero ≡ Some end → ⊥
unfolding end_at
no_end_at-zero guest end is = cc

-- an end at a step is the first of any number of steps that has it
pub first_end-found : (guest : GuestState) (number most : ℕ) (end : End × GuestState) → number ≤ most → end_at guest number ≡ Some end
    → first_end guest most ≡ Some end
first_end-found guest zero most end le is = absurd (no_end_at-zero guest end is)
first_end-found guest (suc count) most end le is =
    let at = ends_after guest count end is in
    found guest end.1 count most end.0 at.0 at.1 (omega arith)

-- and the first is at a step
pub first_end-at : (guest : GuestState) (most : ℕ) (end : End × GuestState) → first_end guest most ≡ Some end
    → (number : ℕ) × (number ≤ most) × (end_at guest number ≡ Some end)
unfolding first_end
first_end-at guest zero end is = absurd cc
first_end-at guest (suc most) end is = by_first (first_end guest most) refl is (λ was. first_end-at guest most end was) where
  by_first : (o : Option (End × GuestState)) → first_end guest most ≡ o → option_or o (end_at guest (suc most)) ≡ Some end
      → (first_end guest most ≡ Some end → (number : ℕ) × (number ≤ most) × (end_at guest number ≡ Some end))
      → (number : ℕ) × (number ≤ suc most) × (end_at guest number ≡ Some end)
  by_first None was is earlier = (suc most, omega arith, is)
  by_first (Some first) was is earlier =
      let at = earlier (was ∙ is) in
      (at.0, omega (arith, at.1), at.2)

-- where there is none, all steps went on
pub no_end-goes_on : (guest : GuestState) (most : ℕ) → first_end guest most ≡ None → (to : GuestState) × (after guest most ≡ Some to)
unfolding first_end after
no_end-goes_on guest zero is = (guest, refl)
no_end-goes_on guest (suc most) is = by_first (first_end guest most) refl is (λ was. no_end-goes_on guest most was) where
  by_next : (last : GuestState) (n : Next) → after guest most ≡ Some last → next last ≡ n → end_of last n ≡ None → (to : GuestState) × (after guest (suc most) ≡ Some to)
  by_next last (Goes to) reached goes is = (to, ap (λ o. option_and_then (λ l. went_to (next l)) o) reached ∙ ap went_to goes)
  by_next last (Ends why) reached ends is = absurd cc

  by_first : (o : Option (End × GuestState)) → first_end guest most ≡ o → option_or o (end_at guest (suc most)) ≡ None
      → (first_end guest most ≡ None → (to : GuestState) × (after guest most ≡ Some to)) → (to : GuestState) × (after guest (suc most) ≡ Some to)
  by_first None was is earlier =
      let last = earlier was in
      by_next last.0 (next last.0) last.1 refl (sym (end_at-next guest last.0 most last.1) ∙ is)
  by_first (Some first) was is earlier = absurd cc

-- a run has one end: at one step, and of one kind
pub one_end-law : (guest : GuestState) (number other : ℕ) (end what : End × GuestState) → end_at guest number ≡ Some end
    → end_at guest other ≡ Some what → (number ≡ other) × (end ≡ what)
one_end-law guest zero other end what is at = absurd (no_end_at-zero guest end is)
one_end-law guest (suc count) zero end what is at = absurd (no_end_at-zero guest what at)
one_end-law guest (suc count) (suc after_those) end what is at =
    let same : end ≡ what =
    same_Some end what
    (sym (first_end-found guest (suc count) (suc count + suc after_those) end (omega arith) is)
    ∙ first_end-found guest (suc after_those) (suc count + suc after_those) what (omega arith) at) in
    let left : end.1.steps ≡ what.1.steps = ap (λ (e : End × GuestState). e.1.steps) same in
    let one = after-counted guest end.1 count ((ends_after guest count end is).0) in
    let two = after-counted guest what.1 after_those ((ends_after guest after_those what at).0) in
    (omega arith, same)

-- the first end over a sum
pub first_end-sum : (guest between : GuestState) (first more : ℕ) → after guest first ≡ Some between
    → first_end guest (first + more) ≡ first_end between more
unfolding first_end end_at
first_end-sum guest between first zero reached =
    let all : first + 0 ≡ first = omega arith in
    ap (first_end guest) all ∙ goes_on-no_end guest between first reached
first_end-sum guest between first (suc more) reached =
    let all : first + suc more ≡ suc (first + more) = omega arith in
    let earlier = first_end-sum guest between first more reached in
    let here = after-sum guest between first more reached in
    ap (first_end guest) all
    ∙ (λ i. option_or (earlier i) (option_and_then (λ last. end_of last (next last)) (here i)))

-- the state of a want over a sum
between_is : (guest between to : GuestState) (first : ℕ) → after guest first ≡ Some between
    → after between (steps_between between to) ≡ Some to → steps_between guest to ≡ first + steps_between between to
between_is guest between to first reached there =
    let a = after-counted guest between first reached in
    let b = after-counted between to (steps_between between to) there in
    omega arith

pub runs-join : (guest between to : GuestState) (first more : ℕ) (why : RunEnd)
    → Runs guest first Spent between → Runs between more why to → Runs guest (first + more) why to
runs-join guest between to first more (Exited status) spent is = first_end-sum guest between first more spent.1 ∙ is
runs-join guest between to first more (Trapped cause) spent is = first_end-sum guest between first more spent.1 ∙ is
runs-join guest between to first more (UnknownCall number) spent is = first_end-sum guest between first more spent.1 ∙ is
runs-join guest between to first more Spent spent is =
    (first_end-sum guest between first more spent.1 ∙ is.0, after-sum guest between first more spent.1 ∙ is.1)
runs-join guest between to first more OutOfMemory spent is =
    let sum = between_is guest between to first spent.1 is.1 in
    (omega (arith, is.0), ap (after guest) sum ∙ after-sum guest between first (steps_between between to) spent.1 ∙ is.1, is.2, is.3)

-- an end within fewer steps is one within more
pub stays : (guest : GuestState) (most more : ℕ) (end : End × GuestState) → first_end guest most ≡ Some end → first_end guest (most + more) ≡ Some end
stays guest most more end is =
    let at = first_end-at guest most end is in
    first_end-found guest at.0 (most + more) end (omega (arith, at.1)) at.2

pub end-stays : (guest to : GuestState) (most more : ℕ) (why : RunEnd) → why ≢ Spent → Runs guest most why to → Runs guest (most + more) why to
end-stays guest to most more (Exited status) other is = stays guest most more _ is
end-stays guest to most more (Trapped cause) other is = stays guest most more _ is
end-stays guest to most more (UnknownCall number) other is = stays guest most more _ is
end-stays guest to most more Spent other is = absurd (other refl)
end-stays guest to most more OutOfMemory other is = (omega (arith, is.0), is.1, is.2, is.3)

-- the states that a run passes
passed : (guest : GuestState) (most : ℕ) (end : End × GuestState) → first_end guest most ≡ Some end
    → (count : ℕ) × (count ≤ most) × (after guest count ≡ Some end.1)
passed guest most end is = let at = first_end-at guest most end is in by_number at.0 at.1 at.2 where
  by_number : (number : ℕ) → number ≤ most → end_at guest number ≡ Some end → (count : ℕ) × (count ≤ most) × (after guest count ≡ Some end.1)
  by_number zero le is = absurd (no_end_at-zero guest end is)
  by_number (suc count) le is = (count, omega arith, (ends_after guest count end is).0)

pub some_steps : (guest : GuestState) (most : ℕ) (why : RunEnd) (to : GuestState) → Runs guest most why to
    → (count : ℕ) × (count ≤ most) × (after guest count ≡ Some to)
some_steps guest most (Exited status) to is = passed guest most _ is
some_steps guest most (Trapped cause) to is = passed guest most _ is
some_steps guest most (UnknownCall number) to is = passed guest most _ is
some_steps guest most Spent to is = (most, omega arith, is.1)
some_steps guest most OutOfMemory to is = (steps_between guest to, omega (arith, is.0), is.1)

-- how many steps a run takes
pub run-counted : (guest to : GuestState) (most : ℕ) (why : RunEnd) → Runs guest most why to
    → (guest.steps ≤ to.steps) × (to.steps ≤ guest.steps + most)
run-counted guest to most why is =
    let reached = some_steps guest most why to is in
    let counted = after-counted guest to reached.0 reached.2 in
    (omega arith, omega (arith, reached.1))
