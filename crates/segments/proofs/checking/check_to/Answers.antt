use Rattle.std.proofs.Common.{◌-◌, ap, sym, ◌∙◌, arith}
use Rattle.ddc_base.specs.Difference.{first_difference}
use Rattle.guest_run.specs.Run.{Exited, Trapped, UnknownCall}
use Rattle.segments.specs.Segments.{second_text}
use Rattle.segments.proofs.Pieces.{apart_by, differs_at, ended_before, ends_here, is_segment, states_of}
use Rattle.segments.proofs.checking.check_to.Goals as goal

pub returns-then-recorded-first : goal.returns-then-recorded-first
returns-then-recorded-first c =
    let states = states_of c.args.from.now c.args.to.now c.args.guest.now c.args.recorded.now c.requires.from c.requires.to in
    (states, omega (arith, c.requires.to.counted, c.steps-first.ensures.value, c.if-recorded-first.true))

pub returns-then-count-gt-MOST_STEPS : goal.returns-then-count-gt-MOST_STEPS
returns-then-count-gt-MOST_STEPS c =
    let states = states_of c.args.from.now c.args.to.now c.args.guest.now c.args.recorded.now c.requires.from c.requires.to in
    (states, omega (arith, c.requires.to.counted, c.steps-first.ensures.value, c.if-count-gt-MOST_STEPS.true))

pub overflow_add-result : goal.overflow_add-result
overflow_add-result c =
    let before = ended_before c.args.guest.now c.run.new.self (c.args.recorded.now.steps - c.steps-first.result) (Exited c.in-Exited.field-0) c.in-Exited.ensures.answer in
    omega (arith, before, c.steps.ensures.value, c.steps-first.ensures.value)

pub returns-in-Exited : goal.returns-in-Exited
returns-in-Exited c =
    let apart = apart_by c.args.from.now c.args.to.now c.args.guest.now c.args.recorded.now c.steps-first.result c.requires.from c.requires.to c.steps-first.ensures.value (omega arith) (omega arith) in
    ends_here c.args.from.now c.args.to.now c.args.guest.now c.run.new.self c.args.recorded.now (c.args.recorded.now.steps - c.steps-first.result) c.steps.result (Exited c.in-Exited.field-0) apart c.steps.ensures.value c.in-Exited.ensures.answer

pub overflow_add-result-in-Trapped : goal.overflow_add-result-in-Trapped
overflow_add-result-in-Trapped c =
    let before = ended_before c.args.guest.now c.run.new.self (c.args.recorded.now.steps - c.steps-first.result) (Trapped c.in-Trapped.field-0) c.in-Trapped.ensures.answer in
    omega (arith, before, c.steps-in-Trapped.ensures.value, c.steps-first.ensures.value)

pub returns-in-Trapped : goal.returns-in-Trapped
returns-in-Trapped c =
    let apart = apart_by c.args.from.now c.args.to.now c.args.guest.now c.args.recorded.now c.steps-first.result c.requires.from c.requires.to c.steps-first.ensures.value (omega arith) (omega arith) in
    ends_here c.args.from.now c.args.to.now c.args.guest.now c.run.new.self c.args.recorded.now (c.args.recorded.now.steps - c.steps-first.result) c.steps-in-Trapped.result (Trapped c.in-Trapped.field-0) apart c.steps-in-Trapped.ensures.value c.in-Trapped.ensures.answer

pub overflow_add-result-in-UnknownCall : goal.overflow_add-result-in-UnknownCall
overflow_add-result-in-UnknownCall c =
    let before = ended_before c.args.guest.now c.run.new.self (c.args.recorded.now.steps - c.steps-first.result) (UnknownCall c.in-UnknownCall.field-0) c.in-UnknownCall.ensures.answer in
    omega (arith, before, c.steps-in-UnknownCall.ensures.value, c.steps-first.ensures.value)

pub returns-in-UnknownCall : goal.returns-in-UnknownCall
returns-in-UnknownCall c =
    let apart = apart_by c.args.from.now c.args.to.now c.args.guest.now c.args.recorded.now c.steps-first.result c.requires.from c.requires.to c.steps-first.ensures.value (omega arith) (omega arith) in
    ends_here c.args.from.now c.args.to.now c.args.guest.now c.run.new.self c.args.recorded.now (c.args.recorded.now.steps - c.steps-first.result) c.steps-in-UnknownCall.result (UnknownCall c.in-UnknownCall.field-0) apart c.steps-in-UnknownCall.ensures.value c.in-UnknownCall.ensures.answer

pub returns-in-Ok-None : goal.returns-in-Ok-None
returns-in-Ok-None c =
    let apart = apart_by c.args.from.now c.args.to.now c.args.guest.now c.args.recorded.now c.steps-first.result c.requires.from c.requires.to c.steps-first.ensures.value (omega arith) (omega arith) in
    is_segment c.args.from.now c.args.to.now c.args.guest.now c.run.new.self c.args.recorded.now (c.args.recorded.now.steps - c.steps-first.result) apart c.in-Spent.ensures.answer.1
    (sym c.as_slice.ensures ∙ c.in-Ok-None.ensures.none c.in-Ok-None.field-0-is) c.difference.ensures.valid c.difference.ensures.small

pub returns-in-Ok-Some : goal.returns-in-Ok-Some
returns-in-Ok-Some c =
    let apart = apart_by c.args.from.now c.args.to.now c.args.guest.now c.args.recorded.now c.steps-first.result c.requires.from c.requires.to c.steps-first.ensures.value (omega arith) (omega arith) in
    differs_at c.args.from.now c.args.to.now c.args.guest.now c.run.new.self c.args.recorded.now (c.args.recorded.now.steps - c.steps-first.result) c.in-Ok-Some.offset apart c.in-Spent.ensures.answer.1
    (sym c.in-Ok-Some.field-0-is ∙ c.in-Ok-Some.ensures.offset ∙ ap (first_difference (second_text c.run.new.self)) c.as_slice.ensures)
