use Rattle.std.proofs.Common.{◌≡◌, suc, ◌+◌, ◌-◌, Ok, Err, subst, ◌∙◌, arith}
use Rattle.ddc_base.specs.Limits.{most_states}
use Rattle.command_plan.specs.Steps.{Obtains}
use Rattle.command_plan.proofs.Obtaining.{stops_with, wants_at_once}
use Rattle.stage_commands.specs.Names.{needs_other}
use Rattle.stage_commands.specs.Names.{each_name}
use Rattle.stage_commands.proofs.PieceNames.{ends_at_name, none_judged, one_judged}
use Rattle.stage_commands.proofs.names.names_other.Goals as goal

pub loop-number-init : goal.loop-number-init
loop-number-init c = (omega arith, λ shelf. none_judged (needs_other c.args.file.now) c.args.prefix.now shelf)

pub returns-in_err-name : goal.returns-in_err-name
returns-in_err-name c = λ shelf. stops_with c.from_residual.ensures.1 (wants_at_once _ shelf)

pub returns-in_err-other : goal.returns-in_err-other
returns-in_err-other c = λ shelf.
    let more : most_states ≡ suc c.loop-number.number + (most_states - suc c.loop-number.number) = omega (arith, c.loop-number-test.true) in
    stops_with c.from_residual-in_err-other.ensures.1
    (ends_at_name (needs_other c.args.file.now) c.args.prefix.now shelf (suc c.loop-number.number) (most_states - suc c.loop-number.number) most_states c.in_err-other.field-0.0 more
    (one_judged (needs_other c.args.file.now) c.args.prefix.now shelf c.loop-number.number (Err c.in_err-other.field-0.0) (c.loop-number.invariant.1 shelf)
    (subst (λ name. Obtains (needs_other c.args.file.now name) shelf shelf (Err c.in_err-other.field-0.0)) (c.of.ensures ∙ c.as_str.ensures.value ∙ c.in_ok-name.ensures.name) (c.in_err-other.ensures shelf))))

pub loop-number-preserved : goal.loop-number-preserved
loop-number-preserved c = (
  omega (arith, c.loop-number-test.true),
  λ shelf.
      let next : suc c.loop-number.number ≡ c.loop-number.number + 1 = omega arith in
      subst (λ count. Obtains (each_name (needs_other c.args.file.now) c.args.prefix.now count) shelf shelf (Ok tt)) next
      (one_judged (needs_other c.args.file.now) c.args.prefix.now shelf c.loop-number.number (Ok tt) (c.loop-number.invariant.1 shelf)
      (subst (λ name. Obtains (needs_other c.args.file.now name) shelf shelf (Ok tt)) (c.of.ensures ∙ c.as_str.ensures.value ∙ c.in_ok-name.ensures.name) (c.in_ok-other.ensures shelf))),
)

pub returns : goal.returns
returns c = λ shelf.
    let all : c.loop-number.number ≡ most_states = omega (arith, c.loop-number-test.false, c.loop-number.invariant.0) in
    subst (λ count. Obtains (each_name (needs_other c.args.file.now) c.args.prefix.now count) shelf shelf (Ok tt)) all (c.loop-number.invariant.1 shelf)
