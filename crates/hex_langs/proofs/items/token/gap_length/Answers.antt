use Rattle.std.proofs.Common.{arith, get_or, drop, ◌+◌, sym}
use Rattle.std.proofs.lemmas.List.{at_drop_all, at_drop_more}
use Rattle.hex_langs.specs.Items.Tokens.{gap_from, gap_length}
use Rattle.hex_langs.proofs.ItemsLemmas.Gaps.{gap_from-other}
use Rattle.hex_langs.proofs.items.token.gap_length.Goals as goal

pub returns-then-not-is_blank-clause-value : goal.returns-then-not-is_blank-clause-value
unfolding gap_length
returns-then-not-is_blank-clause-value c =
    let turn = at_drop_more (gap_from c.loop-index.in_comment) c.args.source.now c.loop-index.index 0 (omega arith) in
    let other = gap_from-other (get_or c.args.source.now c.loop-index.index 0) (drop (c.loop-index.index + 1) c.args.source.now) (sym c.if-begins_comment.ensures) (sym c.if-not-is_blank.ensures) in
    grind (arith, turn, other)

pub returns-clause-value : goal.returns-clause-value
unfolding gap_length
returns-clause-value c =
    let done = at_drop_all (gap_from c.loop-index.in_comment) c.args.source.now c.loop-index.index (omega arith) in
    grind (arith, done)
