use Rattle.std.proofs.Common.{◌+◌, ap, sym, ◌∙◌, subst, inr}
use Rattle.std.specs.Prelude.{IsTrue}
use Rattle.rv64_machine.specs.Hart.{HartState}
use Rattle.linux_calls.specs.declared.CallEnd.TheVariants.{Back, Exit, Unknown, OutOfMemory}
use Rattle.linux_calls.specs.Answer.{IsAnswer}
use Rattle.linux_calls.specs.Calls.{CallState, state}
use Rattle.guest_run.specs.State.{GuestState, guest_state}
use Rattle.guest_run.specs.Run.{call_number, Goes, step_goes_on, outcome_of}
use Rattle.guest_run.proofs.Stepping.{at_guest, exits_with, goes_back, left_as_was, next-calls, unknown_is, wants_memory}
use Rattle.guest_run.proofs.run.Process.serve.Goals as goal

pub returns-in-Back-clause-step : goal.returns-in-Back-clause-step
returns-in-Back-clause-step g c =
    let guest : GuestState = guest_state c.args.self.now.hart c.args.self.now.files c.args.self.now.heap c.args.self.now.steps in
    let left : CallState = state (g.R.Ram.bytes c.call.new.ram) c.call.new.files c.call.new.heap in
    let is : IsAnswer (call_number guest) (state guest.hart.memory guest.world guest.heap) left (outcome_of guest) (Back c.in-Back.value) =
    at_guest guest left (Back c.in-Back.value) _ _ _ c.call_regs-regs.ensures.number c.call_regs-regs.ensures.arguments c.ram_mut.ensures.value c.in-Back.ensures.answer in
    next-calls guest c.requires.calls
    ∙ goes_back guest (outcome_of guest) _ c.in-Back.value _ left is
    ∙ ap (λ (hart : HartState). Goes (guest_state hart c.call.new.files c.call.new.heap (c.args.self.now.steps + 1))) (sym c.answer.ensures)

pub returns-in-Exit-clause-step : goal.returns-in-Exit-clause-step
returns-in-Exit-clause-step g c =
    let guest : GuestState = guest_state c.args.self.now.hart c.args.self.now.files c.args.self.now.heap c.args.self.now.steps in
    let left : CallState = state (g.R.Ram.bytes c.call.new.ram) c.call.new.files c.call.new.heap in
    let is : IsAnswer (call_number guest) (state guest.hart.memory guest.world guest.heap) left (outcome_of guest) (Exit c.in-Exit.status) =
    at_guest guest left (Exit c.in-Exit.status) _ _ _ c.call_regs-regs.ensures.number c.call_regs-regs.ensures.arguments c.ram_mut.ensures.value c.in-Exit.ensures.answer in
    let both = exits_with guest (outcome_of guest) _ c.in-Exit.status _ left is in
    (next-calls guest c.requires.calls ∙ both.0, left_as_was guest left both.1)

pub returns-in-Unknown-clause-step : goal.returns-in-Unknown-clause-step
returns-in-Unknown-clause-step g c =
    let guest : GuestState = guest_state c.args.self.now.hart c.args.self.now.files c.args.self.now.heap c.args.self.now.steps in
    let left : CallState = state (g.R.Ram.bytes c.call.new.ram) c.call.new.files c.call.new.heap in
    let is : IsAnswer (call_number guest) (state guest.hart.memory guest.world guest.heap) left (outcome_of guest) (Unknown c.in-Unknown.number) =
    at_guest guest left (Unknown c.in-Unknown.number) _ _ _ c.call_regs-regs.ensures.number c.call_regs-regs.ensures.arguments c.ram_mut.ensures.value c.in-Unknown.ensures.answer in
    let both = unknown_is guest (outcome_of guest) _ c.in-Unknown.number _ left is in
    (next-calls guest c.requires.calls ∙ both.0, left_as_was guest left both.1)

pub returns-in-OutOfMemory-clause-step : goal.returns-in-OutOfMemory-clause-step
returns-in-OutOfMemory-clause-step g c =
    let guest : GuestState = guest_state c.args.self.now.hart c.args.self.now.files c.args.self.now.heap c.args.self.now.steps in
    let left : CallState = state (g.R.Ram.bytes c.call.new.ram) c.call.new.files c.call.new.heap in
    let is : IsAnswer (call_number guest) (state guest.hart.memory guest.world guest.heap) left (outcome_of guest) OutOfMemory =
    at_guest guest left OutOfMemory _ _ _ c.call_regs-regs.ensures.number c.call_regs-regs.ensures.arguments c.ram_mut.ensures.value c.in-OutOfMemory.ensures.answer in
    let all = wants_memory guest (outcome_of guest) left is in (
      subst (λ n. IsTrue (step_goes_on n)) (sym (next-calls guest c.requires.calls)) all.0,
      inr (c.requires.calls, all.1),
      left_as_was guest left all.2,
    )
