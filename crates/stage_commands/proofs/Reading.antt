-- What a text says as a state is what was read of it, and what two texts are is what was checked.
use Rattle.std.proofs.Common.{◌≡◌, ℕ, ◌+◌, ◌-◌, ◌<◌, ◌≤◌, ◌^◌, inl, inr, ◌⊎◌, None, Some, Result, Ok, Err, List, unwrap_or, nat_le, refl, sym, ap, ◌∙◌, arith}
use Rattle.std.specs.Prelude.{nat_lt}
use Rattle.std.proofs.lemmas.Bool.Decides.{Decides-ltb}
use Rattle.ddc_base.specs.Difference.{first_difference}
use Rattle.ddc_base.proofs.Differences.{first_difference-same}
use Rattle.ddc_base.specs.Limits.{most_steps}
use Rattle.save_format.specs.StateText.StateText.{StateText, parsed_state}
use Rattle.checkpoints.specs.Inside.Tests as test
use Rattle.checkpoints.proofs.Decided.{is_in_range, is_joined}
use Rattle.checkpoints.proofs.Decisions.{by_case, chosen, is_at_most, passed}
use Rattle.guest_run.specs.Run.{End, after, first_end}
use Rattle.guest_run.specs.State.{GuestState}
use Rattle.guest_run.proofs.Running.{goes_on-no_end}
use Rattle.segments.specs.Segments.{AreTwoStates, ChecksPiece, GoesOnFrom, IsNoState, IsStateOf, second_text}
use Rattle.segments.specs.declared.answers.StateFault.{StateFault}
use Rattle.segments.specs.declared.answers.StateFault.TheVariants.{Form, Range, FileRef}
use Rattle.segments.specs.declared.answers.SegmentFault.{SegmentFault}
use Rattle.segments.specs.declared.answers.SegmentFault.TheVariants.{From, To, NotLater, TooFar, EndsAt, Differs}
use Rattle.stage_commands.specs.States.{ReadsAs, along, piece_answer, between_states, end_after, end_from, piece_of, reached_by, parsed_by, state_parsed, unless_other}

-- ---- one text

pub is_read : (text : List ℕ) (result : Result GuestState StateFault) → ReadsAs text result → state_parsed text ≡ result
unfolding state_parsed
is_read text (Ok guest) (s, is, range, joins, same) =
    ap parsed_by is ∙ chosen _ (is_in_range s) _ _ range ∙ chosen _ (is_joined s) _ _ joins ∙ ap Ok (sym same)
is_read text (Err (Form offset)) is = ap parsed_by is
is_read text (Err Range) (s, is, not) = ap parsed_by is ∙ passed _ (is_in_range s) _ _ not
is_read text (Err FileRef) (s, is, range, not) = ap parsed_by is ∙ chosen _ (is_in_range s) _ _ range ∙ passed _ (is_joined s) _ _ not

pub reads : (text : List ℕ) → ReadsAs text (state_parsed text)
unfolding state_parsed
reads text = by (parsed_state text) refl where
  by : (parsed : Result StateText ℕ) → parsed_state text ≡ parsed → ReadsAs text (parsed_by parsed)
  by (Err offset) is = is
  by (Ok s) is =
      by_case (ReadsAs text) (test.is_in_range s) (is_in_range s) _ _
      (λ range. by_case (ReadsAs text) (test.is_joined s) (is_joined s) _ _ (λ joins. (s, is, range, joins, refl)) (λ not. (s, is, range, not)))
      (λ not. (s, is, not))

-- ---- two texts

module _ (from to : List ℕ) (states : AreTwoStates from to) where
  abbrev apart : ℕ
  apart = states.last.steps - states.first.steps

  both_read : piece_of from to ≡ between_states (Ok states.first) (Ok states.last)
  unfolding piece_of
  both_read = λ i. between_states (is_read from (Ok states.first) states.from_is i) (is_read to (Ok states.last) states.to_is i)

  later : states.first.steps < states.last.steps → piece_of from to ≡ along apart states.first states.last
  later less =
      both_read ∙ passed (nat_le states.last.steps states.first.steps) (is_at_most states.last.steps states.first.steps) _ _ (λ le. omega (arith, less, le))

  near : states.first.steps < states.last.steps → states.last.steps ≤ states.first.steps + most_steps
      → piece_of from to ≡ reached_by apart states.first states.last (first_end states.first apart)
  near less le =
      later less ∙ passed (nat_lt most_steps apart) (Decides-ltb most_steps apart) _ _ (λ far. omega (arith, less, le, far))

  -- all steps go on, to a state
  reached : (guest : GuestState) → states.first.steps < states.last.steps → states.last.steps ≤ states.first.steps + most_steps → after states.first apart ≡ Some guest
      → piece_of from to ≡ unless_other apart (first_difference (second_text guest) (second_text states.last))
  reached guest less le there =
      near less le
      ∙ ap (reached_by apart states.first states.last) (goes_on-no_end states.first guest apart there)
      ∙ ap (λ o. unless_other apart (first_difference (second_text (unwrap_or o states.first)) (second_text states.last))) there

first_none : (from to : List ℕ) (why : StateFault) → IsNoState from why → piece_of from to ≡ Err (From why)
unfolding piece_of
first_none from to why is = ap (λ r. between_states r (state_parsed to)) (is_read from (Err why) is)

last_none : (from to : List ℕ) (guest : GuestState) (why : StateFault) → IsStateOf from guest → IsNoState to why → piece_of from to ≡ Err (To why)
unfolding piece_of
last_none from to guest why there is = λ i. between_states (is_read from (Ok guest) there i) (is_read to (Err why) is i)

pub is_reported : (from to : List ℕ) (result : Result ℕ SegmentFault) → ChecksPiece from to (piece_answer result) → piece_of from to ≡ result
is_reported from to (Ok steps) s =
    let piece = s.piece in
    let count : s.states.last.steps - s.states.first.steps ≡ steps = omega (arith, piece.counted) in
    reached from to s.states s.states.last (omega (arith, piece.counted, piece.some)) (omega (arith, piece.counted, s.near)) (ap (after s.states.first) count ∙ piece.reached)
    ∙ ap (unless_other (s.states.last.steps - s.states.first.steps)) (first_difference-same (second_text s.states.last))
    ∙ ap Ok count
is_reported from to (Err (From why)) is = first_none from to why is
is_reported from to (Err (To why)) (first, is) = last_none from to first.0 why first.1 is
is_reported from to (Err NotLater) (states, le) =
    both_read from to states ∙ chosen (nat_le states.last.steps states.first.steps) (is_at_most states.last.steps states.first.steps) _ _ le
is_reported from to (Err TooFar) (states, far) =
    let less : states.first.steps < states.last.steps = omega (arith, far) in
    later from to states less
    ∙ chosen (nat_lt most_steps (states.last.steps - states.first.steps)) (Decides-ltb most_steps (states.last.steps - states.first.steps)) _ _ (omega (arith, far))
is_reported from to (Err (EndsAt step)) e =
    near from to e.at.states e.at.later e.at.near
    ∙ ap (reached_by (e.at.states.last.steps - e.at.states.first.steps) e.at.states.first e.at.states.last) e.ends
    ∙ ap (λ n. Err (EndsAt n)) (sym e.step_is)
is_reported from to (Err (Differs offset)) d =
    reached from to d.at.states d.guest d.at.later d.at.near d.reached
    ∙ ap (unless_other (d.at.states.last.steps - d.at.states.first.steps)) d.differs

-- ---- the end after a text

module _ (text : List ℕ) (limit : ℕ) where
  pub no_state : (why : StateFault) → IsNoState text why → end_after text limit ≡ Err why
  unfolding end_after
  no_state why is = ap (λ r. end_from r limit) (is_read text (Err why) is)

  pub an_end : (from guest : GuestState) (end : End) → IsStateOf text from → first_end from (limit - from.steps) ≡ Some (end, guest)
      → end_after text limit ≡ Ok (Some (end, guest))
  unfolding end_after
  an_end from guest end is ends = ap (λ r. end_from r limit) (is_read text (Ok from) is) ∙ ap Ok ends

  none_at : (from : GuestState) → (limit ≤ from.steps) ⊎ (first_end from (limit - from.steps) ≡ None) → first_end from (limit - from.steps) ≡ None
  unfolding first_end
  none_at from (inl over) = let none : limit - from.steps ≡ 0 = omega (arith, over) in ap (first_end from) none
  none_at from (inr none) = none

  pub no_end : GoesOnFrom text limit → end_after text limit ≡ Ok None
  unfolding end_after
  no_end g = ap (λ r. end_from r limit) (is_read text (Ok g.from) g.is) ∙ ap Ok (none_at g.from g.over)
