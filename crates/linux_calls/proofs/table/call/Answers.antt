use Rattle.std.proofs.Common.{sym, subst}
use Rattle.std.specs.Prelude.{slice_index}
use Rattle.linux_calls.specs.Answer.{IsAnswer}
use Rattle.linux_calls.specs.Calls.{CallState, back, state, syscall, written_at}
use Rattle.linux_calls.specs.Linux.{sys_write}
use Rattle.linux_calls.proofs.table.call.Goals as goal

pub returns-in-64-clause-answer : goal.returns-in-64-clause-answer
returns-in-64-clause-answer g c =
    let m = g.R.Ram.bytes c.args.ram.now in
    let old : CallState = state m c.args.files.now c.args.heap.now in
    let new : CallState = state m c.write.new.files c.args.heap.now in
    let a = c.args.regs.now.a in
    subst (λ number. IsAnswer number old new (syscall number a old) c.write.result) (sym c.in-64.is)
    (subst (λ fd. IsAnswer sys_write old new (back old (written_at m c.args.files.now fd (slice_index a 1) (slice_index a 2))) c.write.result) c.low-in-64.ensures
    (c.write.ensures c.args.heap.now))
