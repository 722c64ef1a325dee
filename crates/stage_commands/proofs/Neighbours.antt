-- Texts of two states of one run are a piece.
use Rattle.std.proofs.Common.{◌≡◌, ℕ, ◌+◌, ◌<◌, ◌≤◌, ◌^◌, inl, Some, Ok, refl, sym, arith}
use Rattle.ddc_base.specs.Limits.{most_steps}
use Rattle.save_format.proofs.StateTextLemmas.Texts.{formed_again}
use Rattle.checkpoints.specs.Checkpoint.{state_of}
use Rattle.checkpoints.proofs.States.{in_range, is_text, joined, same_guest}
use Rattle.guest_run.specs.Run.{after}
use Rattle.guest_run.specs.State.{GuestState}
use Rattle.guest_run.specs.Valid.{IsValid}
use Rattle.guest_run.proofs.Running.{after-counted}
use Rattle.segments.specs.Segments.{IsStateOf, second_text}
use Rattle.stage_commands.specs.States.{piece_of, state_parsed}
use Rattle.stage_commands.proofs.Reading.{is_read, is_reported}

-- a valid state is that of its text
pub of_text : (g : GuestState) → IsValid g → g.steps < 2 ^ 64 → IsStateOf (second_text g) g
of_text g valid small =
    (state_of g, formed_again (state_of g) (second_text g) (is_text g valid small) (inl refl), in_range g valid, joined g valid, sym (same_guest g valid))

pub text_parsed : (g : GuestState) → IsValid g → g.steps < 2 ^ 64 → state_parsed (second_text g) ≡ Ok g
text_parsed g valid small = is_read (second_text g) (Ok g) (of_text g valid small)

pub neighbours : (g to : GuestState) (steps : ℕ) → IsValid g → IsValid to → to.steps < 2 ^ 64 → 1 ≤ steps → steps ≤ most_steps → after g steps ≡ Some to
    → piece_of (second_text g) (second_text to) ≡ Ok steps
neighbours g to steps valid good small some near there =
    let counted : to.steps ≡ g.steps + steps = after-counted g to steps there in
    let less : g.steps < 2 ^ 64 = omega (arith, counted, small) in
    is_reported (second_text g) (second_text to) (Ok steps) (record {
      states = record { first = g; last = to; from_is = of_text g valid less; to_is = of_text to good small };
      piece = record { some = some; counted = counted; reached = there };
      near = near;
    })
