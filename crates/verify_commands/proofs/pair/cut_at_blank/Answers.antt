use Rattle.std.proofs.Common.{◌+◌, take, drop, sym, ap}
use Rattle.std.proofs.lemmas.List.{take_rest}
use Rattle.verify_commands.proofs.Cutting.{blank_there, none_after, whole_before}
use Rattle.verify_commands.proofs.pair.cut_at_blank.Goals as goal

pub returns-in-Some-clause-before : goal.returns-in-Some-clause-before
returns-in-Some-clause-before c = sym (ap (λ n. take n c.args.line.now) (blank_there c.args.line.now c.in-Some.at (sym c.in-Some.ensures.index)))

pub returns-in-Some-clause-after : goal.returns-in-Some-clause-after
returns-in-Some-clause-after c = rw take_rest (sym (ap (λ n. drop (n + 1) c.args.line.now) (blank_there c.args.line.now c.in-Some.at (sym c.in-Some.ensures.index))))

pub returns-in-None-clause-before : goal.returns-in-None-clause-before
returns-in-None-clause-before c = sym (whole_before c.args.line.now (sym c.in-None.ensures.index))

pub returns-in-None-clause-after : goal.returns-in-None-clause-after
returns-in-None-clause-after c = sym (none_after c.args.line.now (sym c.in-None.ensures.index))
