use Rattle.std.proofs.Common.{arith, get_or, drop, ◌+◌, sym}
use Rattle.std.proofs.lemmas.List.{at_drop_more}
use Rattle.std.specs.List.{position_or_len}
use Rattle.hex_langs.specs.Items.Tokens.{ends_name}
use Rattle.hex_langs.proofs.ItemsLemmas.Gaps.{name-done}
use Rattle.hex_langs.proofs.items.token.until_end.Goals as goal

pub returns-then-ends_name-clause-value : goal.returns-then-ends_name-clause-value
returns-then-ends_name-clause-value c =
    let turn = at_drop_more (position_or_len ends_name) c.args.rest.now c.loop-index.index 0 (omega arith) in
    let done = name-done (get_or c.args.rest.now c.loop-index.index 0) (drop (c.loop-index.index + 1) c.args.rest.now) (sym c.if-ends_name.ensures) in
    grind (arith, turn, done)
