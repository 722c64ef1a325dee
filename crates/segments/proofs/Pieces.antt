-- What the run of one piece answers.
use Rattle.std.proofs.Common.{◌≡◌, ℕ, ◌+◌, ◌-◌, ◌<◌, ◌≤◌, ◌^◌, Result, Ok, Some, List, inl, refl, sym, ap, ◌∙◌, subst, arith}
use Rattle.ddc_base.specs.Difference.{first_difference}
use Rattle.ddc_base.specs.Limits.{most_steps}
use Rattle.save_format.specs.StateText.StateText.{StateText, parsed_state}
use Rattle.save_format.proofs.StateTextLemmas.Texts.{formed_again}
use Rattle.checkpoints.specs.Checkpoint.{guest_of, state_of}
use Rattle.checkpoints.proofs.States.{is_text, same_guest}
use Rattle.guest_run.specs.Run.{after, first_end, End}
use Rattle.guest_run.specs.State.{GuestState}
use Rattle.guest_run.specs.Valid.{IsValid}
use Rattle.guest_run.proofs.Endings.{end-counted}
use Rattle.guest_run.proofs.RunLaws.{first_end-at}
use Rattle.segments.specs.Segments.{AreTwoStates, DiffersAt, EndsBetween, IsLater, IsSegment, IsStateOf, second_text}
use Rattle.segments.specs.Inside.Recorded.{Records}
use Rattle.segments.specs.declared.reading.Recorded.{Recorded}

-- two valid states with one text are one
pub one_text : (a b : GuestState) → IsValid a → IsValid b → a.steps < 2 ^ 64 → b.steps < 2 ^ 64 → second_text a ≡ second_text b → a ≡ b
one_text a b fit fits few less same =
    let one : parsed_state (second_text a) ≡ Ok (state_of a) = formed_again (state_of a) (second_text a) (is_text a fit few) (inl refl) in
    let other : parsed_state (second_text a) ≡ Ok (state_of b) = formed_again (state_of b) (second_text a) (is_text b fits less) (inl same) in
    let both : ◌≡◌ {A = Result StateText ℕ} (Ok (state_of a)) (Ok (state_of b)) = sym one ∙ other in
    let parsed : state_of a ≡ state_of b = cc in
    sym (same_guest a fit) ∙ ap guest_of parsed ∙ same_guest b fits

-- two texts, the latter later by so many steps
pub record Apart (from to : List ℕ) (first : GuestState) (recorded : Recorded) (count : ℕ) : Type 0 where
  pub here : IsStateOf from first
  pub there : Records to recorded
  pub later : first.steps < recorded.steps
  pub near : count ≤ most_steps
  pub count_is : count ≡ recorded.steps - first.steps

abbrev pub states_of : (from to : List ℕ) (first : GuestState) (recorded : Recorded) → IsStateOf from first → Records to recorded → AreTwoStates from to
states_of from to first recorded here there = record { first = first; last = there.guest; from_is = here; to_is = there.is }

later_of : (from to : List ℕ) (first : GuestState) (recorded : Recorded) (count : ℕ) → Apart from to first recorded count → IsLater from to
later_of from to first recorded count apart = record {
  states = record { first = first; last = apart.there.guest; from_is = apart.here; to_is = apart.there.is };
  later = omega (arith, apart.later, apart.there.counted);
  near = omega (arith, apart.near, apart.count_is, apart.there.counted);
}

-- an end comes before the last of the steps is done
pub ended_before : (first guest : GuestState) (count : ℕ) (end : End) → first_end first count ≡ Some (end, guest) → guest.steps + 1 ≤ first.steps + count
ended_before first guest count end is =
    let at = first_end-at first count (end, guest) is in
    let counted = end-counted first guest at.0 end at.2 in
    omega (arith, counted, at.1)

pub ends_between : (from to : List ℕ) (first guest : GuestState) (recorded : Recorded) (count : ℕ) (end : End) → Apart from to first recorded count
    → first_end first count ≡ Some (end, guest) → EndsBetween from to (guest.steps + 1)
unfolding later_of
ends_between from to first guest recorded count end apart is =
    let same : apart.there.guest.steps - first.steps ≡ count = omega (arith, apart.count_is, apart.there.counted) in
    record { at = later_of from to first recorded count apart; end = end; guest = guest; ends = ap (first_end first) same ∙ is; step_is = refl }

pub differs_at : (from to : List ℕ) (first guest : GuestState) (recorded : Recorded) (count offset : ℕ) → Apart from to first recorded count
    → after first count ≡ Some guest → Some offset ≡ first_difference (second_text guest) recorded.text → DiffersAt from to offset
unfolding later_of
differs_at from to first guest recorded count offset apart reached differs =
    let same : apart.there.guest.steps - first.steps ≡ count = omega (arith, apart.count_is, apart.there.counted) in
    record {
      at = later_of from to first recorded count apart;
      guest = guest;
      reached = ap (after first) same ∙ reached;
      differs = ap (first_difference (second_text guest)) (sym apart.there.written) ∙ sym differs;
    }

pub is_segment : (from to : List ℕ) (first guest : GuestState) (recorded : Recorded) (count : ℕ) → Apart from to first recorded count
    → after first count ≡ Some guest → recorded.text ≡ second_text guest → IsValid guest → guest.steps < 2 ^ 64 → IsSegment from to count
is_segment from to first guest recorded count apart reached text valid small =
    let same : apart.there.guest ≡ guest = one_text apart.there.guest guest apart.there.valid valid apart.there.small small (sym apart.there.written ∙ text) in
    let counted : apart.there.guest.steps ≡ first.steps + count = omega (arith, apart.count_is, apart.there.counted, apart.later) in
    record {
      states = record { first = first; last = apart.there.guest; from_is = apart.here; to_is = apart.there.is };
      piece = record { some = omega (arith, apart.count_is, apart.later); counted = counted; reached = reached ∙ ap Some (sym same) };
      near = apart.near;
    }

-- where the run of a piece begins: the former guest has taken so many steps, and the latter more, but not too many
pub apart_by : (from to : List ℕ) (first : GuestState) (recorded : Recorded) (counted : ℕ) → IsStateOf from first → Records to recorded → counted ≡ first.steps → counted < recorded.steps
    → recorded.steps - counted ≤ most_steps → Apart from to first recorded (recorded.steps - counted)
apart_by from to first recorded counted here there is later near = record {
  here = here;
  there = there;
  later = omega (arith, is, later);
  near = near;
  count_is = ap (λ n. recorded.steps - n) is;
}

-- the step after those that the last guest has taken, as the code counts it
pub ends_here : (from to : List ℕ) (first guest : GuestState) (recorded : Recorded) (count number : ℕ) (end : End) → Apart from to first recorded count → number ≡ guest.steps
    → first_end first count ≡ Some (end, guest) → EndsBetween from to (number + 1)
ends_here from to first guest recorded count number end apart is ends =
    subst (λ n. EndsBetween from to (n + 1)) (sym is) (ends_between from to first guest recorded count end apart ends)
