use Rattle.std.proofs.Common.{◌+◌, Some, refl, subst, inl}
use Rattle.rv64_machine.specs.Hart as machine
use Rattle.rv64_machine.specs.declared.answer.StepEnd.{StepEnd}
use Rattle.linux_calls.proofs.Heaps.{IsHeapOf-same}
use Rattle.guest_run.specs.declared.run.RunEnd.TheVariants as answer
use Rattle.guest_run.specs.State.{GuestState, guest_state}
use Rattle.guest_run.proofs.Going.{stretch-done, stretch-of}
use Rattle.guest_run.proofs.Stepping.{next-store, next-traps}
use Rattle.guest_run.proofs.run.Process.stretch.Goals as goal

pub serve-requires-clause-heap_of : goal.serve-requires-clause-heap_of
serve-requires-clause-heap_of g c = IsHeapOf-same c.args.self.now.hart.memory _ c.args.self.now.heap c.run_to-end.ensures.mapping c.requires.heap_of

pub returns-in-Done-clause-steps : goal.returns-in-Done-clause-steps
returns-in-Done-clause-steps g c =
    stretch-done c.args.stop (guest_state c.args.self.now.hart c.args.self.now.files c.args.self.now.heap c.args.self.now.steps) c.run_to-end.new.self c.args.most c.run_to-end.result.1 c.requires.some
    (subst (λ (e : StepEnd). machine.ActsTo c.args.stop c.args.self.now.hart c.args.most c.run_to-end.result.1 e c.run_to-end.new.self) c.in-Done.is c.run_to-end.ensures.acts)

pub returns-in-Done-clause-kept : goal.returns-in-Done-clause-kept
returns-in-Done-clause-kept g c = IsHeapOf-same c.args.self.now.hart.memory _ c.args.self.now.heap c.run_to-end.ensures.mapping c.requires.heap_of

pub returns-in-Call-clause-steps : goal.returns-in-Call-clause-steps
returns-in-Call-clause-steps g c =
    let acts = subst (λ (e : StepEnd). machine.ActsTo c.args.stop c.args.self.now.hart c.args.most c.run_to-end.result.1 e c.run_to-end.new.self) c.in-Call.is c.run_to-end.ensures.acts in
    stretch-of c.args.stop (guest_state c.args.self.now.hart c.args.self.now.files c.args.self.now.heap c.args.self.now.steps) _ c.run_to-end.new.self c.run_to-end.result.1 c.args.most c.serve.result
    acts.1 acts.0 c.serve.ensures.step

pub returns-in-Trap-clause-steps : goal.returns-in-Trap-clause-steps
returns-in-Trap-clause-steps g c =
    let acts = subst (λ (e : StepEnd). machine.ActsTo c.args.stop c.args.self.now.hart c.args.most c.run_to-end.result.1 e c.run_to-end.new.self) c.in-Trap.is c.run_to-end.ensures.acts in
    let last : GuestState = guest_state c.run_to-end.new.self c.args.self.now.files c.args.self.now.heap (c.args.self.now.steps + c.run_to-end.result.1) in
    stretch-of c.args.stop (guest_state c.args.self.now.hart c.args.self.now.files c.args.self.now.heap c.args.self.now.steps) last c.run_to-end.new.self c.run_to-end.result.1 c.args.most
    (Some (answer.Trapped c.in-Trap.cause)) acts.1 acts.0 (next-traps last c.in-Trap.cause acts.2.0, refl)

pub returns-in-Trap-clause-kept : goal.returns-in-Trap-clause-kept
returns-in-Trap-clause-kept g c = IsHeapOf-same c.args.self.now.hart.memory _ c.args.self.now.heap c.run_to-end.ensures.mapping c.requires.heap_of

pub returns-in-OutOfMemory-clause-steps : goal.returns-in-OutOfMemory-clause-steps
returns-in-OutOfMemory-clause-steps g c =
    let acts = subst (λ (e : StepEnd). machine.ActsTo c.args.stop c.args.self.now.hart c.args.most c.run_to-end.result.1 e c.run_to-end.new.self) c.in-OutOfMemory.is c.run_to-end.ensures.acts in
    let last : GuestState = guest_state c.run_to-end.new.self c.args.self.now.files c.args.self.now.heap (c.args.self.now.steps + c.run_to-end.result.1) in
    stretch-of c.args.stop (guest_state c.args.self.now.hart c.args.self.now.files c.args.self.now.heap c.args.self.now.steps) last c.run_to-end.new.self c.run_to-end.result.1 c.args.most
    (Some answer.OutOfMemory) acts.1 acts.0 (next-store last acts.2.0, inl acts.2.1, refl)

pub returns-in-OutOfMemory-clause-kept : goal.returns-in-OutOfMemory-clause-kept
returns-in-OutOfMemory-clause-kept g c = IsHeapOf-same c.args.self.now.hart.memory _ c.args.self.now.heap c.run_to-end.ensures.mapping c.requires.heap_of
