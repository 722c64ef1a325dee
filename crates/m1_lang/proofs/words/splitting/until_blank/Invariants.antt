use Rattle.std.proofs.Common.{◌≡◌, ◌+◌, drop}
use Rattle.std.specs.List.{position_or_len}
use Rattle.hex_langs.specs.Items.Tokens.{is_blank}
use Rattle.m1_lang.proofs.words.splitting.until_blank.Given as goal

abbrev pub invariant-loop-index : goal.invariant-loop-index
invariant-loop-index l = position_or_len is_blank l.rest ≡ l.index + position_or_len is_blank (drop l.index l.rest)
