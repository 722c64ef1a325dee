use Rattle.std.proofs.Common.{◌≡◌, ◌+◌, drop, false}
use Rattle.hex_langs.specs.Items.Tokens.{gap_from}
use Rattle.hex_langs.proofs.items.token.gap_length.Given as goal

abbrev pub invariant-loop-index : goal.invariant-loop-index
invariant-loop-index l = gap_from false l.source ≡ l.index + gap_from l.in_comment (drop l.index l.source)
