-- How a guest goes on, by its steps and by its runs.
use Rattle.std.proofs.Common.{◌≡◌, ◌∙◌, ℕ, zero, suc, ◌+◌, ◌-◌, ◌<◌, ◌≤◌, Bool, true, false, cond, Option, Some, None, inl, inr, refl, sym, ap, subst, arith, add-one}
use Rattle.std.specs.Prelude.{IsTrue}
use Rattle.std.proofs.lemmas.Option.{same_Some}
use Rattle.rv64_machine.specs.Hart.{HartState, is_stop}
use Rattle.rv64_machine.specs.Hart as hart
use Rattle.rv64_machine.specs.declared.answer.StepEnd.TheVariants as hart-end
use Rattle.rv64_machine.proofs.Acts as acts
use Rattle.guest_run.specs.declared.run.RunEnd.{RunEnd}
use Rattle.guest_run.specs.declared.run.RunEnd.TheVariants as answer
use Rattle.guest_run.specs.State.{GuestState}
use Rattle.guest_run.specs.Run.{End, Exited, Trapped, UnknownCall, Next, Goes, Ends, Runs, Steps, StepTakesMemory, after, first_end, next, step_goes_on, steps_between}
use Rattle.guest_run.specs.Travels.{Travels, TravelsBy, travel, travelled}
use Rattle.guest_run.specs.Inside.Stretch.{Leads, Stretches}
use Rattle.guest_run.proofs.Running.{after-none, after-on, after-counted, before, found, goes_on-no_end}
use Rattle.guest_run.proofs.RunLaws.{after-sum, first_end-sum, no_end-goes_on}
use Rattle.guest_run.proofs.Stepping.{next-goes}

-- one step of going on
pub on : (stop : Option ℕ) (guest : GuestState) (most : ℕ) (n : Next) → next guest ≡ n → travel stop guest (suc most) ≡ travelled stop guest (λ to. travel stop to most) n
unfolding travel
on stop guest most n is = ap (travelled stop guest (λ to. travel stop to most)) is

pub none : (stop : Option ℕ) (guest : GuestState) → travel stop guest zero ≡ (None, guest)
unfolding travel
none stop guest = refl

-- the first end within no step
no_first : (guest : GuestState) → first_end guest 0 ≡ None
no_first guest = goes_on-no_end guest guest 0 (after-none guest)

-- a run whose first end is this
pub ended : (most : ℕ) (guest last : GuestState) (end : End) → first_end guest most ≡ Some (end, last) → travel None guest most ≡ (Some end, last)
ended zero guest last end is = absurd (let gone : None ≡ Some (end, last) = sym (no_first guest) ∙ is in cc)
ended (suc most) guest last end is = by_next (λ to there. ended most to last end there) (next guest) refl where
  by_next : ((to : GuestState) → first_end to most ≡ Some (end, last) → travel None to most ≡ (Some end, last)) → (n : Next) → next guest ≡ n → travel None guest (suc most) ≡ (Some end, last)
  by_next later (Goes to) goes =
      let here : after guest 1 ≡ Some to = after-on guest guest to 0 (after-none guest) goes in
      let all : suc most ≡ 1 + most = omega arith in
      on None guest most (Goes to) goes ∙ later to (sym (first_end-sum guest to 1 most here) ∙ ap (first_end guest) (sym all) ∙ is)
  by_next later (Ends what) ends =
      let first : first_end guest (suc most) ≡ Some (what, guest) = found guest guest 0 (suc most) what (after-none guest) ends (omega arith) in
      let same : (what, guest) ≡ (end, last) = same_Some (what, guest) (end, last) (sym first ∙ is) in
      on None guest most (Ends what) ends ∙ ap (λ e. (Some e.0, e.1)) same

-- steps that all went on
pub spent : (most : ℕ) (guest last : GuestState) → after guest most ≡ Some last → travel None guest most ≡ (None, last)
spent zero guest last is = none None guest ∙ ap (λ g. (None, g)) (same_Some guest last (sym (after-none guest) ∙ is))
spent (suc most) guest last is = by_next (λ to there. spent most to last there) (next guest) refl where
  by_next : ((to : GuestState) → after to most ≡ Some last → travel None to most ≡ (None, last)) → (n : Next) → next guest ≡ n → travel None guest (suc most) ≡ (None, last)
  by_next later (Goes to) goes =
      let here : after guest 1 ≡ Some to = after-on guest guest to 0 (after-none guest) goes in
      let all : suc most ≡ 1 + most = omega arith in
      on None guest most (Goes to) goes ∙ later to (sym (after-sum guest to 1 most here) ∙ ap (after guest) (sym all) ∙ is)
  by_next later (Ends what) ends = absurd (
      let first : first_end guest (suc most) ≡ Some (what, guest) = found guest guest 0 (suc most) what (after-none guest) ends (omega arith) in
      let not_there : first_end guest (suc most) ≡ None = goes_on-no_end guest last (suc most) is in
      let gone : None ≡ Some (what, guest) = sym not_there ∙ first in
      cc)

-- ---- from going on without a stop to a run

first_of : (old new : GuestState) (most : ℕ) (end : End) → travel None old most ≡ (Some end, new) → first_end old most ≡ Some (end, new)
first_of old new most end is = by_first (first_end old most) refl where
  by_first : (o : Option (End × GuestState)) → first_end old most ≡ o → first_end old most ≡ Some (end, new)
  by_first None was =
      let all = no_end-goes_on old most was in
      let both : ◌≡◌ {A = Option End × GuestState} (None, all.0) (Some end, new) = sym (spent most old all.0 all.1) ∙ is in
      let gone : ◌≡◌ {A = Option End} None (Some end) = ap (λ e. e.0) both in
      absurd cc
  by_first (Some first) was =
      let both : ◌≡◌ {A = Option End × GuestState} (Some first.0, first.1) (Some end, new) = sym (ended most old first.1 first.0 was) ∙ is in
      let what : first.0 ≡ end = same_Some first.0 end (ap (λ e. e.0) both) in
      was ∙ (λ i. Some (what i, (both i).1))

spent_of : (old new : GuestState) (most : ℕ) → travel None old most ≡ (None, new) → (first_end old most ≡ None) × (after old most ≡ Some new)
spent_of old new most is = by_first (first_end old most) refl where
  by_first : (o : Option (End × GuestState)) → first_end old most ≡ o → (first_end old most ≡ None) × (after old most ≡ Some new)
  by_first None was =
      let all = no_end-goes_on old most was in
      let both : ◌≡◌ {A = Option End × GuestState} (None, all.0) (None, new) = sym (spent most old all.0 all.1) ∙ is in
      (was, all.1 ∙ ap (λ e. Some e.1) both)
  by_first (Some first) was =
      let both : ◌≡◌ {A = Option End × GuestState} (Some first.0, first.1) (None, new) = sym (ended most old first.1 first.0 was) ∙ is in
      let gone : ◌≡◌ {A = Option End} (Some first.0) None = ap (λ e. e.0) both in
      absurd cc

by_end : (old new : GuestState) (most : ℕ) (why : RunEnd) (t : Travels None old most why new) → TravelsBy None old most why new → Runs old most why new
by_end old new most (answer.Exited status) t is = first_of old new most (Exited status) is
by_end old new most (answer.Trapped cause) t is = first_of old new most (Trapped cause) is
by_end old new most (answer.UnknownCall number) t is = first_of old new most (UnknownCall number) is
by_end old new most answer.Spent t is = spent_of old new most is
by_end old new most answer.OutOfMemory t is =
    let between : steps_between old new ≡ t.count = omega (arith, t.counted) in
    (is.0, ap (after old) between ∙ t.reached, is.1, is.2)

pub runs_of : (old new : GuestState) (most : ℕ) (why : RunEnd) → Travels None old most why new → Runs old most why new
runs_of old new most why t = by_end old new most why t t.by_end

-- ---- stretches

pub leads-none : (stop : Option ℕ) (guest : GuestState) → Leads stop guest guest 0
leads-none stop guest = record { reached = after-none guest; same = λ left. ap (travel stop guest) (omega arith) }

-- one step more, which does not come to the stop
leads-on : (stop : Option ℕ) (old last to : GuestState) (count : ℕ) → Leads stop old last count → next last ≡ Goes to → is_stop stop to.hart.pc ≡ false
    → Leads stop old to (count + 1)
leads-on stop old last to count leads goes other = record {
  reached = after-on old last to count leads.reached goes;
  same = λ left.
      let all : count + 1 + left ≡ count + suc left = omega arith in
      ap (travel stop old) all ∙ leads.same (suc left) ∙ on stop last left (Goes to) goes ∙ ap (λ (b : Bool). cond b (None, to) (travel stop to left)) other;
}

-- without a stop all steps that go on do
pub leads-after : (guest to : GuestState) (count : ℕ) → after guest count ≡ Some to → Leads None guest to count
leads-after guest to zero is = subst (λ (last : GuestState). Leads None guest last 0) (same_Some guest to (sym (after-none guest) ∙ is)) (leads-none None guest)
leads-after guest to (suc count) is =
    let earlier = before guest to count is in
    subst (λ n. Leads None guest to n) (add-one count) (leads-on None guest earlier.0 to count (leads-after guest earlier.0 count earlier.1) earlier.2 refl)

-- acts of the hart that do not come to the stop
pub leads-acts : (stop : Option ℕ) (guest : GuestState) (to : HartState) (count : ℕ) → hart.passed stop guest.hart count ≡ Some to
    → Leads stop guest (record guest { hart = to; steps = guest.steps + count }) count
leads-acts stop guest to zero is =
    let same : guest.hart ≡ to = same_Some guest.hart to (sym (acts.passed-none stop guest.hart) ∙ is) in
    let none : guest.steps ≡ guest.steps + 0 = omega arith in
    let all : ◌≡◌ {A = GuestState} guest (record guest { hart = to; steps = guest.steps + 0 }) = λ i. record guest { hart = same i; steps = none i } in
    subst (λ (last : GuestState). Leads stop guest last 0) all (leads-none stop guest)
leads-acts stop guest to (suc count) is =
    let earlier = acts.passed-before stop guest.hart to count is in
    let last : GuestState = record guest { hart = earlier.0; steps = guest.steps + count } in
    let more : guest.steps + count + 1 ≡ guest.steps + suc count = omega arith in
    let step = leads-on stop guest last (record last { hart = to; steps = guest.steps + count + 1 }) count (leads-acts stop guest earlier.0 count earlier.1) (next-goes last to earlier.2) earlier.3 in
    subst (λ (p : ℕ × ℕ). Leads stop guest (record guest { hart = to; steps = p.0 }) p.1) (λ i. (more i, add-one count i)) step

-- a stretch that ends with an act
pub stretch-act : (stop : Option ℕ) (guest : GuestState) (last to : HartState) (before most done : ℕ) → hart.passed stop guest.hart before ≡ Some last
    → hart.act last ≡ hart.GoesOn to → before < most → done ≡ before + 1
    → Stretches stop guest most None (record guest { hart = to; steps = guest.steps + done })
stretch-act stop guest last to before most done passes goes few all =
    let at : GuestState = record guest { hart = last; steps = guest.steps + before } in
    let more : guest.steps + before + 1 ≡ guest.steps + done = omega (arith, all) in
    record {
      count = before;
      last = at;
      few = few;
      leads = leads-acts stop guest last before passes;
      step = next-goes at to goes ∙ ap (λ n. Goes (record guest { hart = to; steps = n })) more;
    }

pub stretch-done : (stop : Option ℕ) (guest : GuestState) (to : HartState) (most done : ℕ) → 0 < most
    → hart.ActsTo stop guest.hart most done hart-end.Done to → Stretches stop guest most None (record guest { hart = to; steps = guest.steps + done })
stretch-done stop guest to zero done some how = absurd (omega (arith, some))
stretch-done stop guest to (suc most) done some (inl (all, passes)) =
    let last = acts.passed-before stop guest.hart to most (ap (hart.passed stop guest.hart) (sym all) ∙ passes) in
    stretch-act stop guest last.0 to most (suc most) done last.1 last.2 (omega arith) (omega (arith, all))
stretch-done stop guest to (suc most) done some (inr come) = stretch-act stop guest come.last to come.before (suc most) done come.passes come.arrives come.few come.counted

pub stretch-of : (stop : Option ℕ) (guest new : GuestState) (to : HartState) (count most : ℕ) (end : Option RunEnd) → hart.passed stop guest.hart count ≡ Some to → count < most
    → Steps (record guest { hart = to; steps = guest.steps + count }) end new → Stretches stop guest most end new
stretch-of stop guest new to count most end passes few step = record {
  count = count;
  last = record guest { hart = to; steps = guest.steps + count };
  few = few;
  leads = leads-acts stop guest to count passes;
  step = step;
}

-- ---- the loop over stretches

-- where it stands with so many steps left
pub record StandsAt (stop : Option ℕ) (first : GuestState) (most : ℕ) (now : GuestState) (left : ℕ) : Type 0 where
  pub same : travel stop first most ≡ travel stop now left
  pub reached : after first (now.steps - first.steps) ≡ Some now
  pub rises : first.steps ≤ now.steps
  pub all : now.steps + left ≡ first.steps + most

pub begins : (stop : Option ℕ) (first : GuestState) (most left : ℕ) → left ≡ most → StandsAt stop first most first left
begins stop first most left is =
    let no_steps : first.steps - first.steps ≡ 0 = omega arith in
    record {
      same = ap (travel stop first) (sym is);
      reached = ap (after first) no_steps ∙ after-none first;
      rises = omega arith;
      all = omega (arith, is);
    }

module _ (stop : Option ℕ) (first : GuestState) (most : ℕ) (now : GuestState) (left : ℕ) (s : StandsAt stop first most now left) where
  -- at the state of a stretch's last step
  to_last : (last : GuestState) (count : ℕ) → count < left → Leads stop now last count → (n : Next) → next last ≡ n
      → (after first (last.steps - first.steps) ≡ Some last) × (last.steps ≡ now.steps + count)
      × (travel stop first most ≡ travelled stop last (λ to. travel stop to (left - count - 1)) n)
  to_last last count few leads n is =
      let counted = after-counted now last count leads.reached in
      let sum : last.steps - first.steps ≡ now.steps - first.steps + count = omega (arith, counted, s.rises) in
      let all : left ≡ count + suc (left - count - 1) = omega (arith, few) in (
        ap (after first) sum ∙ after-sum first now (now.steps - first.steps) count s.reached ∙ leads.reached,
        counted,
        s.same ∙ ap (travel stop now) all ∙ leads.same (suc (left - count - 1)) ∙ on stop last (left - count - 1) n is,
      )

  -- after a stretch that went on
  pub went_on : (to : GuestState) → Stretches stop now left None to
      → (after first (to.steps - first.steps) ≡ Some to) × (now.steps < to.steps) × (to.steps ≤ now.steps + left)
      × (travel stop first most ≡ cond (is_stop stop to.hart.pc) (None, to) (travel stop to (now.steps + left - to.steps)))
  went_on to stretch =
      let last = to_last stretch.last stretch.count stretch.few stretch.leads (Goes to) stretch.step in
      let counted = after-counted stretch.last to 1 (after-on stretch.last stretch.last to 0 (after-none stretch.last) stretch.step) in
      let sum : to.steps - first.steps ≡ stretch.last.steps - first.steps + 1 = omega (arith, counted, last.1, s.rises) in
      let rest : left - stretch.count - 1 ≡ now.steps + left - to.steps = omega (arith, counted, last.1, stretch.few) in (
        ap (after first) sum ∙ after-on first stretch.last to (stretch.last.steps - first.steps) last.0 stretch.step,
        omega (arith, counted, last.1),
        omega (arith, counted, last.1, stretch.few),
        last.2 ∙ ap (λ n. cond (is_stop stop to.hart.pc) (None, to) (travel stop to n)) rest,
      )

  pub stands_on : (to : GuestState) (more : ℕ) → Stretches stop now left None to → is_stop stop to.hart.pc ≡ false → more ≡ now.steps + left - to.steps
      → StandsAt stop first most to more
  stands_on to more stretch other is =
      let on = went_on to stretch in
      record {
        same = on.3 ∙ ap (λ (b : Bool). cond b (None, to) (travel stop to (now.steps + left - to.steps))) other ∙ ap (travel stop to) (sym is);
        reached = on.0;
        rises = omega (arith, on.1, s.rises);
        all = omega (arith, on.2, s.all, is);
      }

  pub stops : (to : GuestState) → Stretches stop now left None to → is_stop stop to.hart.pc ≡ true → Travels stop first most answer.Spent to
  stops to stretch here =
      let on = went_on to stretch in
      record {
        by_end = on.3 ∙ ap (λ (b : Bool). cond b (None, to) (travel stop to (now.steps + left - to.steps))) here;
        count = to.steps - first.steps;
        reached = on.0;
        counted = omega (arith, on.1, s.rises);
        few = omega (arith, on.2, s.all, s.rises);
      }

  ends : (to last : GuestState) (count : ℕ) (end : End) → count < left → Leads stop now last count → (next last ≡ Ends end) × (to ≡ last)
      → (travel stop first most ≡ (Some end, to))
  ends to last count end few leads is =
      let at = to_last last count few leads (Ends end) is.0 in
      at.2 ∙ ap (λ (g : GuestState). (Some end, g)) (sym is.1)

  by_why : (to last : GuestState) (count : ℕ) (why : RunEnd) → count < left → Leads stop now last count → Steps last (Some why) to
      → TravelsBy stop first most why to × (to ≡ last)
  by_why to last count (answer.Exited status) few leads is = (ends to last count (Exited status) few leads is, is.1)
  by_why to last count (answer.Trapped cause) few leads is = (ends to last count (Trapped cause) few leads is, is.1)
  by_why to last count (answer.UnknownCall number) few leads is = (ends to last count (UnknownCall number) few leads is, is.1)
  by_why to last count answer.Spent few leads is = absurd is
  by_why to last count answer.OutOfMemory few leads is =
      let counted = after-counted now last count leads.reached in
      let at : to.steps ≡ last.steps = ap (λ (g : GuestState). g.steps) is.2 in
      let all : left ≡ count + (left - count) = omega (arith, few) in
      let rest : left - count ≡ most - steps_between first to = omega (arith, at, counted, few, s.all, s.rises) in (
        (
          omega (arith, at, counted, few, s.all, s.rises),
          subst (λ (g : GuestState). IsTrue (step_goes_on (next g))) (sym is.2) is.0,
          subst (λ (g : GuestState). StepTakesMemory g) (sym is.2) is.1,
          s.same ∙ ap (travel stop now) all ∙ leads.same (left - count) ∙ ap (λ (g : GuestState). travel stop g (left - count)) (sym is.2) ∙ ap (travel stop to) rest,
        ),
        is.2,
      )

  -- after a stretch that did not
  pub over : (to : GuestState) (why : RunEnd) → Stretches stop now left (Some why) to → Travels stop first most why to
  over to why stretch =
      let how = by_why to stretch.last stretch.count why stretch.few stretch.leads stretch.step in
      let counted = after-counted now stretch.last stretch.count stretch.leads.reached in
      let at : to.steps ≡ stretch.last.steps = ap (λ (g : GuestState). g.steps) how.1 in
      let sum : to.steps - first.steps ≡ now.steps - first.steps + stretch.count = omega (arith, at, counted, s.rises) in
      record {
        by_end = how.0;
        count = to.steps - first.steps;
        reached = ap (after first) sum ∙ after-sum first now (now.steps - first.steps) stretch.count s.reached ∙ stretch.leads.reached ∙ ap Some (sym how.1);
        counted = omega (arith, at, counted, s.rises);
        few = omega (arith, at, counted, stretch.few, s.all, s.rises);
      }

  -- all steps were taken
  pub all_taken : left ≡ 0 → Travels stop first most answer.Spent now
  all_taken is = record {
    by_end = s.same ∙ ap (travel stop now) is ∙ none stop now;
    count = now.steps - first.steps;
    reached = s.reached;
    counted = omega (arith, s.rises);
    few = omega (arith, s.all, s.rises);
  }
