use Rattle.std.proofs.Common.{arith, ap, sym, ◌∙◌}
use Rattle.m1_lang.specs.Words.Words.{open_quote}
use Rattle.m1_lang.proofs.Passing.{words-end}
use Rattle.m1_lang.proofs.definitions.open_quote.Goals as goal

pub returns : goal.returns
returns c = sym (c.loop-at.invariant.whole ∙ ap open_quote (words-end c.args.source.now c.loop-at.at (omega arith)))
