use Rattle.std.proofs.Common.{ap, sym, take}
use Rattle.tool_commands.proofs.OffsetSteps.{blank_there, whole_before}
use Rattle.tool_commands.proofs.offsets.leading_word.Goals as goal

pub returns-in-Some : goal.returns-in-Some
returns-in-Some c = sym (ap (λ size. take size c.args.rest.now) (blank_there c.args.rest.now c.in-Some.size (sym c.in-Some.ensures.index)))

pub returns-in-None : goal.returns-in-None
returns-in-None c = sym (whole_before c.args.rest.now (sym c.in-None.ensures.index))
