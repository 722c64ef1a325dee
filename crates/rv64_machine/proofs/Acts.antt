-- Many acts of a hart.
use Rattle.std.proofs.Common.{◌≡◌, ℕ, zero, suc, ◌+◌, ◌-◌, Bool, true, false, cond, Option, None, Some, inl, inr, refl, sym, ap, subst, ◌∙◌, add-one, arith}
use Rattle.std.specs.Prelude.{option_and_then, unwrap_or, ◌==◌}
use Rattle.std.proofs.lemmas.Bool.{false≢true}
use Rattle.std.proofs.lemmas.Bool.Decides.{eqb_tells}
use Rattle.std.proofs.lemmas.Option.{same_Some}
use Rattle.rv64_machine.specs.declared.answer.StepEnd.{StepEnd}
use Rattle.rv64_machine.specs.declared.answer.StepEnd.TheVariants as end
use Rattle.rv64_machine.specs.Inside.Down.{ActsDown}
use Rattle.rv64_machine.specs.Hart.{Act, ActsInARow, ActsTo, GoesOn, Calls, Traps, HartState, act, acted, is_stop, passed, went_on, went_past}

pub acted-none : (hart : HartState) → acted hart 0 ≡ Some hart
unfolding acted
acted-none hart = refl

-- one act more
pub acted-on : (first last to : HartState) (count : ℕ) → acted first count ≡ Some last → act last ≡ GoesOn to → acted first (count + 1) ≡ Some to
unfolding acted
acted-on first last to count reached goes =
    ap (acted first) (add-one count)
    ∙ ap (λ o. option_and_then (λ l. went_on (act l)) o) reached
    ∙ ap went_on goes

-- one act less
pub before : (first to : HartState) (count : ℕ) → acted first (suc count) ≡ Some to
    → (last : HartState) × (acted first count ≡ Some last) × (act last ≡ GoesOn to)
unfolding acted
before first to count is = by_last (acted first count) refl is where
  went : (an_act : Act) → went_on an_act ≡ Some to → an_act ≡ GoesOn to
  went (GoesOn hart) is = ap GoesOn (same_Some hart to is)
  went Calls is = cc
  went (Traps cause) is = cc

  by_last : (o : Option HartState) → acted first count ≡ o → option_and_then (λ l. went_on (act l)) o ≡ Some to
      → (last : HartState) × (acted first count ≡ Some last) × (act last ≡ GoesOn to)
  by_last None was on = absurd cc
  by_last (Some last) was on = (last, was, went (act last) on)

-- ---- acts up to a stop

pub passed-none : (stop : Option ℕ) (hart : HartState) → passed stop hart 0 ≡ Some hart
unfolding passed
passed-none stop hart = refl

-- one act more, which does not come to the stop
pub passed-on : (stop : Option ℕ) (first last to : HartState) (count : ℕ) → passed stop first count ≡ Some last → act last ≡ GoesOn to
    → is_stop stop to.pc ≡ false → passed stop first (count + 1) ≡ Some to
unfolding passed
passed-on stop first last to count reached goes other =
    ap (passed stop first) (add-one count)
    ∙ ap (λ o. option_and_then (λ l. went_past stop (act l)) o) reached
    ∙ ap (went_past stop) goes
    ∙ ap (λ b. cond b None (Some to)) other

-- one act less
pub passed-before : (stop : Option ℕ) (first to : HartState) (count : ℕ) → passed stop first (suc count) ≡ Some to
    → (last : HartState) × (passed stop first count ≡ Some last) × (act last ≡ GoesOn to) × (is_stop stop to.pc ≡ false)
unfolding passed
passed-before stop first to count is = by_last (passed stop first count) refl is where
  went : (an_act : Act) → went_past stop an_act ≡ Some to → (an_act ≡ GoesOn to) × (is_stop stop to.pc ≡ false)
  went (GoesOn hart) is = by_stop (is_stop stop hart.pc) refl is
    where
      by_stop : (b : Bool) → is_stop stop hart.pc ≡ b → cond b None (Some hart) ≡ Some to → (GoesOn hart ≡ GoesOn to) × (is_stop stop to.pc ≡ false)
      by_stop true was e = absurd cc
      by_stop false was e = let same = same_Some hart to e in (ap GoesOn same, ap (λ (h : HartState). is_stop stop h.pc) (sym same) ∙ was)
  went Calls is = absurd cc
  went (Traps cause) is = absurd cc

  by_last : (o : Option HartState) → passed stop first count ≡ o → option_and_then (λ l. went_past stop (act l)) o ≡ Some to
      → (last : HartState) × (passed stop first count ≡ Some last) × (act last ≡ GoesOn to) × (is_stop stop to.pc ≡ false)
  by_last None was on = absurd cc
  by_last (Some last) was on = let more = went (act last) on in (last, was, more.0, more.1)

-- acts that did not come to a stop did not come to none
pub passed-any : (stop : Option ℕ) (first to : HartState) (count : ℕ) → passed stop first count ≡ Some to → passed None first count ≡ Some to
passed-any stop first to zero is = passed-none None first ∙ sym (passed-none stop first) ∙ is
passed-any stop first to (suc count) is =
    let earlier = passed-before stop first to count is in
    ap (passed None first) (sym (add-one count)) ∙ passed-on None first earlier.0 to count (passed-any stop first earlier.0 count earlier.1) earlier.2 refl

-- with no stop they are acts in a row
pub acted-passed : (first to : HartState) (count : ℕ) → passed None first count ≡ Some to → acted first count ≡ Some to
acted-passed first to zero is = acted-none first ∙ sym (passed-none None first) ∙ is
acted-passed first to (suc count) is =
    let earlier = passed-before None first to count is in
    ap (acted first) (sym (add-one count)) ∙ acted-on first earlier.0 to count (acted-passed first earlier.0 count earlier.1) earlier.2

pub in_a_row : (old new : HartState) (most done : ℕ) (how : StepEnd) → ActsTo None old most done how new → ActsInARow old most done how new
in_a_row old new most done end.Done (inl all) = (all.0, acted-passed old new done all.1)
in_a_row old new most done end.Done (inr come) = absurd (false≢true come.stands)
in_a_row old new most done end.Call (few, there, how) = (few, acted-passed old new done there, how)
in_a_row old new most done (end.Trap cause) (few, there, how) = (few, acted-passed old new done there, how)
in_a_row old new most done end.OutOfMemory (few, there, how) = (few, acted-passed old new done there, how)

-- the code's count down, with a stop and with none
up_to : (stop most remaining : ℕ) (old new : HartState) (how : StepEnd) → ActsDown stop old most remaining how new → ActsTo (Some stop) old most (most - remaining) how new
up_to stop most remaining old new end.Done (inl (none, all)) =
    let whole : most - remaining ≡ most = omega (arith, none) in
    inl (whole, ap (passed (Some stop) old) whole ∙ all)
up_to stop most remaining old new end.Done (inr (come, some, even)) = inr come
up_to stop most remaining old new end.Call (some, few, there, how) = (omega (arith, some, few), there, how)
up_to stop most remaining old new (end.Trap cause) (some, few, there, how) = (omega (arith, some, few), there, how)
up_to stop most remaining old new end.OutOfMemory (some, few, there, how) = (omega (arith, some, few), there, how)

unstopped : (stop most remaining : ℕ) (old new : HartState) (how : StepEnd) → stop ≡ 1 → ActsDown stop old most remaining how new → ActsTo None old most (most - remaining) how new
unstopped stop most remaining old new end.Done odd (inl (none, all)) =
    let whole : most - remaining ≡ most = omega (arith, none) in
    inl (whole, ap (passed None old) whole ∙ passed-any (Some stop) old new most all)
unstopped stop most remaining old new end.Done odd (inr (come, some, even)) = absurd (omega (arith, odd, even))
unstopped stop most remaining old new end.Call odd (some, few, there, how) = (omega (arith, some, few), passed-any (Some stop) old new _ there, how)
unstopped stop most remaining old new (end.Trap cause) odd (some, few, there, how) = (omega (arith, some, few), passed-any (Some stop) old new _ there, how)
unstopped stop most remaining old new end.OutOfMemory odd (some, few, there, how) = (omega (arith, some, few), passed-any (Some stop) old new _ there, how)

pub acts_to : (stop : Option ℕ) (address most remaining : ℕ) (old new : HartState) (how : StepEnd) → address ≡ unwrap_or stop 1 → ActsDown address old most remaining how new
    → ActsTo stop old most (most - remaining) how new
acts_to None address most remaining old new how is down = unstopped address most remaining old new how is down
acts_to (Some stop) address most remaining old new how is down =
    up_to stop most remaining old new how (subst (λ a. ActsDown a old most remaining how new) is down)

pub is_equal : (a b : ℕ) → a ≡ b → (a == b) ≡ true
is_equal a b same =
    elim (eqb_tells a b) [
      | inl yes_it ↦ yes_it.0
      | inr no_it ↦ absurd (no_it.1 same)
    ]
