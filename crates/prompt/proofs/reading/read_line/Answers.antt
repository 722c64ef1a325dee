use Rattle.std.proofs.Common.{Some, arith, ap, sym, ◌∙◌, subst}
use Rattle.prompt.specs.Reading.{GivesLine, TakesByte}
use Rattle.prompt.proofs.Lines.{cut, ends, kept-few, read-more, stops}
use Rattle.prompt.proofs.reading.read_line.Goals as goal

pub returns-in-Some-eq10-clause-line : goal.returns-in-Some-eq10-clause-line
returns-in-Some-eq10-clause-line g c =
    let is = c.in-Some-eq10.is ∙ ap (λ b. Some b) c.in-Some-eq10.field-0-test in
    subst (GivesLine _ _) (sym c.whole.ensures) (ends _ _ _ _ _ c.loop-taken.invariant (subst (TakesByte _ _) is c.in_ok-next_byte.ensures.byte) c.loop-taken-test.true)

pub keep-requires : goal.keep-requires
keep-requires g c = λ few. kept-few _ _ _ _ c.loop-taken.invariant few

pub returns-in-None-2-clause-line : goal.returns-in-None-2-clause-line
returns-in-None-2-clause-line g c =
    let none = subst (TakesByte _ _) c.in-None-2.is c.in_ok-next_byte.ensures.byte in
    subst (GivesLine _ _) (sym c.whole-in-None-2.ensures) (stops _ _ _ _ _ c.loop-taken.invariant none.0 none.1 c.if-taken-eq0.false c.loop-taken-test.true)

pub loop-taken-preserved : goal.loop-taken-preserved
loop-taken-preserved g c =
    read-more _ _ _ _ _ _ _ c.loop-taken.invariant (subst (TakesByte _ _) c.in-Some.is c.in_ok-next_byte.ensures.byte) c.in-Some.byte-test.1 c.keep.ensures

pub returns-clause-line : goal.returns-clause-line
returns-clause-line g c = cut _ _ _ _ c.loop-taken.invariant (omega (arith, c.loop-taken-test.false))
