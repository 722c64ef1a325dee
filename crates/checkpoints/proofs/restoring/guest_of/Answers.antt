use Rattle.std.proofs.Common.{◌≡◌, ◌∷◌, refl, subst, ◌∙◌}
use Rattle.std.proofs.lemmas.Result.{err_from_is_err_and}
use Rattle.rv64_machine.specs.Hart.{HartState, IsReservation}
use Rattle.guest_run.specs.State.{guest_state}
use Rattle.guest_run.specs.Valid.{Fits}
use Rattle.save_format.specs.StateText.Seen.{state_view}
use Rattle.checkpoints.specs.Checkpoint.{guest_of, memory_of}
use Rattle.checkpoints.proofs.Refused.{by_files, by_memory, by_reservation}
use Rattle.checkpoints.proofs.restoring.guest_of.Goals as goal

pub returns-in_err-reservation : goal.returns-in_err-reservation
returns-in_err-reservation g c =
    let p = err_from_is_err_and c.from_residual.result c.from_residual.ensures.1 in
    rw (p.1, p.2) (by_reservation (state_view c.args.parts.now) c.in_err-reservation.field-0.0 c.in_err-reservation.ensures)

pub returns-in_err-ram : goal.returns-in_err-ram
returns-in_err-ram g c =
    let s = state_view c.args.parts.now in
    let reserved : IsReservation s.reservation = subst IsReservation c.in_ok-reservation.ensures.1 c.in_ok-reservation.ensures.0 in
    let p = err_from_is_err_and c.from_residual-in_err-ram.result c.from_residual-in_err-ram.ensures.1 in
    rw (p.1, p.2) (by_memory s c.in_err-ram.field-0.0 c.if-parts-ne0.false reserved c.in_err-ram.ensures)

pub returns-in_err-files : goal.returns-in_err-files
returns-in_err-files g c =
    let s = state_view c.args.parts.now in
    let reserved : IsReservation s.reservation = subst IsReservation c.in_ok-reservation.ensures.1 c.in_ok-reservation.ensures.0 in
    let made : HartState = record { registers = 0 ∷ s.registers; pc = s.pc; memory = memory_of s; reservation = s.reservation } in
    let hart : c.hart_of-hart.result ≡ made = c.hart_of-hart.ensures ∙ (λ i. record { registers = 0 ∷ s.registers; pc = s.pc; memory = c.in_ok-ram.ensures.1 i; reservation = c.in_ok-reservation.ensures.1 i }) in
    let fits : Fits (memory_of s) s.heap = subst (λ (h : HartState). Fits h.memory s.heap) hart (c.if-not-fit_together.ensures.0 refl) in
    let p = err_from_is_err_and c.from_residual-in_err-files.result c.from_residual-in_err-files.ensures.1 in
    rw (p.1, p.2) (by_files s c.in_err-files.field-0.0 c.if-parts-ne0.false reserved c.in_ok-ram.ensures.0 fits c.in_err-files.ensures)

pub returns : goal.returns
unfolding guest_of
returns g c =
    let s = state_view c.args.parts.now in
    let reserved : IsReservation s.reservation = subst IsReservation c.in_ok-reservation.ensures.1 c.in_ok-reservation.ensures.0 in
    let made : HartState = record { registers = 0 ∷ s.registers; pc = s.pc; memory = memory_of s; reservation = s.reservation } in
    let hart : c.hart_of-hart.result ≡ made = c.hart_of-hart.ensures ∙ (λ i. record { registers = 0 ∷ s.registers; pc = s.pc; memory = c.in_ok-ram.ensures.1 i; reservation = c.in_ok-reservation.ensures.1 i }) in (
      record {
        aligned = c.if-parts-ne0.false;
        reserved = reserved;
        memory = c.in_ok-ram.ensures.0;
        fits = subst (λ (h : HartState). Fits h.memory s.heap) hart (c.if-not-fit_together.ensures.0 refl);
        files = c.in_ok-files.ensures.0;
      },
      c.in_ok-files.ensures.1,
      c.restore.ensures ∙ (λ i. guest_state (hart i) (c.in_ok-files.ensures.2 i) s.heap s.steps),
    )
