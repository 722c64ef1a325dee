use Rattle.std.proofs.Common.{◌≡◌, ◌+◌, drop}
use Rattle.std.specs.List.{position_or_len}
use Rattle.hex_langs.specs.Items.Tokens.{ends_name}
use Rattle.hex_langs.proofs.items.token.until_end.Given as goal

abbrev pub invariant-loop-index : goal.invariant-loop-index
invariant-loop-index l = position_or_len ends_name l.rest ≡ l.index + position_or_len ends_name (drop l.index l.rest)
