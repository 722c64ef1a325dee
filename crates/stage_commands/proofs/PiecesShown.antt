-- What is printed of texts is so.
use Rattle.std.proofs.Common.{◌≡◌, ℕ, ◌+◌, ◌-◌, ◌<◌, ◌≤◌, ◌^◌, inr, Option, None, Some, Result, Ok, Err, List, nat_le, unwrap_or, refl, sym, ap, ◌∙◌, subst, arith}
use Rattle.std.specs.Prelude.{nat_lt}
use Rattle.std.proofs.Math.Decide.{dec_lt}
use Rattle.std.proofs.lemmas.Bool.Decides.{Decides-ltb}
use Rattle.ddc_base.specs.ByteLists.{AreBytes}
use Rattle.ddc_base.specs.Difference.{first_difference}
use Rattle.ddc_base.specs.Limits.{most_steps}
use Rattle.checkpoints.proofs.Decisions.{by_case, is_at_most}
use Rattle.guest_run.specs.Run.{End, Exited, Trapped, UnknownCall, after, first_end}
use Rattle.guest_run.specs.State.{GuestState}
use Rattle.guest_run.proofs.Running.{after-counted}
use Rattle.guest_run.proofs.RunLaws.{no_end-goes_on}
use Rattle.guest_run.proofs.Validity.{after-valid}
use Rattle.segments.specs.Segments.{AreTwoStates, ChecksPiece, EndsWith, IsRunsEnd, IsStateOf, second_text}
use Rattle.segments.specs.declared.answers.StateFault.{StateFault}
use Rattle.segments.specs.declared.answers.SegmentFault.{SegmentFault}
use Rattle.stage_commands.specs.Checked.{EndShows, run_end}
use Rattle.stage_commands.specs.States.{ReadsAs, between_states, end_after, end_from, piece_answer, piece_of, reached_by, state_after, state_parsed, unless_other}
use Rattle.stage_commands.proofs.Reading.{an_end, no_end, no_state, reads}
use Rattle.stage_commands.proofs.StatesRead.{IsRead, is_read_valid, no_difference, one_text}

-- ---- two texts

module _ (from to : List ℕ) (first_bytes : AreBytes from) (last_bytes : AreBytes to) where
  abbrev Shows : Result ℕ SegmentFault → Type 0
  Shows result = ChecksPiece from to (piece_answer result)

  module _ (first last : GuestState) (from_is : IsStateOf from first) (to_is : IsStateOf to last) where
    abbrev apart : ℕ
    apart = last.steps - first.steps

    abbrev states : AreTwoStates from to
    states = record { first = first; last = last; from_is = from_is; to_is = to_is }

    module _ (less : first.steps < last.steps) (near : last.steps ≤ first.steps + most_steps) where
      by_difference : (to : GuestState) → after first apart ≡ Some to → (d : Option ℕ) → first_difference (second_text to) (second_text last) ≡ d → Shows (unless_other apart d)
      by_difference to there None none =
          let begins = is_read_valid from first first_bytes from_is in
          let ends = is_read_valid _ last last_bytes to_is in
          let counted : to.steps ≡ first.steps + apart = after-counted first to apart there in
          let small = ends.small in
          let read : IsRead to = record { valid = after-valid first to apart begins.valid there; small = omega (arith, counted, less, small) } in
          let same : to ≡ last = one_text to last read ends (no_difference (second_text to) (second_text last) none) in
          record { states = states; piece = record { some = omega (arith, less); counted = omega (arith, less); reached = there ∙ ap Some same }; near = omega (arith, near) }
      by_difference to there (Some offset) differs =
          record { at = record { states = states; later = less; near = near }; guest = to; reached = there; differs = differs }

      by_end : (e : Option (End × GuestState)) → first_end first apart ≡ e → Shows (reached_by apart first last e)
      by_end (Some (end, guest)) ends = record { at = record { states = states; later = less; near = near }; end = end; guest = guest; ends = ends; step_is = refl }
      by_end None none =
          let on = no_end-goes_on first apart none in
          let at : state_after first apart ≡ on.0 = ap (λ o. unwrap_or o first) on.1 in
          subst (λ g. Shows (unless_other apart (first_difference (second_text g) (second_text last)))) (sym at)
          (by_difference on.0 on.1 (first_difference (second_text on.0) (second_text last)) refl)

    of_two : Shows (between_states (Ok first) (Ok last))
    of_two =
        by_case Shows (nat_le last.steps first.steps) (is_at_most last.steps first.steps) _ _
        (λ le. (states, le))
        (λ not. by_case Shows (nat_lt most_steps apart) (Decides-ltb most_steps apart) _ _
        (λ far. (states, omega (arith, far)))
        (λ near. by_end (omega (arith, not)) (omega (arith, not, near)) (first_end first apart) refl))

  pub piece_shown : Shows (piece_of from to)
  unfolding piece_of
  piece_shown = by (state_parsed from) (reads from) (state_parsed to) (reads to) where
    by : (former : Result GuestState StateFault) → ReadsAs from former → (latter : Result GuestState StateFault) → ReadsAs to latter → Shows (between_states former latter)
    by (Err why) first latter last = first
    by (Ok first) from_is (Err why) last = ((first, from_is), last)
    by (Ok first) from_is (Ok last) to_is = of_two first last from_is to_is

-- ---- the last text

is_end : (end : End) → IsRunsEnd (run_end end)
is_end (Exited status) = tt
is_end (Trapped cause) = tt
is_end (UnknownCall number) = tt

module _ (text : List ℕ) (limit : ℕ) where
  nothing_left : (from : GuestState) → limit ≤ from.steps → first_end from (limit - from.steps) ≡ None
  unfolding first_end
  nothing_left from over = let none : limit - from.steps ≡ 0 = omega (arith, over) in ap (first_end from) none

  pub end_shown : EndShows text limit (end_after text limit)
  unfolding end_after
  end_shown = by (state_parsed text) (reads text) where
    ended : (from : GuestState) → IsStateOf text from → (e : Option (End × GuestState)) → first_end from (limit - from.steps) ≡ e → EndShows text limit (Ok e)
    ended from is None none = record { from = from; is = is; over = inr none }
    ended from is (Some (end, guest)) ends = elim (dec_lt from.steps limit) [
      | yes below ↦ by_kind end ends below
      | no not ↦ absurd (let none = nothing_left from (omega (arith, not)) in cc)
    ] where
      by_kind : (end : End) → first_end from (limit - from.steps) ≡ Some (end, guest) → from.steps < limit → EndsWith text limit guest (run_end end)
      by_kind (Exited status) ends below = record { from = from; is = is; below = below; end = tt; ends = ends }
      by_kind (Trapped cause) ends below = record { from = from; is = is; below = below; end = tt; ends = ends }
      by_kind (UnknownCall number) ends below = record { from = from; is = is; below = below; end = tt; ends = ends }

    by : (parsed : Result GuestState StateFault) → ReadsAs text parsed → EndShows text limit (end_from parsed limit)
    by (Err why) is = is
    by (Ok from) is = ended from is (first_end from (limit - from.steps)) refl

  pub end_reported : (result : Result (Option (End × GuestState)) StateFault) → EndShows text limit result → end_after text limit ≡ result
  end_reported (Err why) is = no_state text limit why is
  end_reported (Ok None) goes = no_end text limit goes
  end_reported (Ok (Some (Exited status, guest))) e = an_end text limit e.from guest (Exited status) e.is e.ends
  end_reported (Ok (Some (Trapped cause, guest))) e = an_end text limit e.from guest (Trapped cause) e.is e.ends
  end_reported (Ok (Some (UnknownCall number, guest))) e = an_end text limit e.from guest (UnknownCall number) e.is e.ends
