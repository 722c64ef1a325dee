use Rattle.std.proofs.Common.{◌≡◌, ◌+◌, ◌==◌, drop}
use Rattle.std.specs.List.{position_or_len}
use Rattle.m1_lang.proofs.words.splitting.until_quote.Given as goal

abbrev pub invariant-loop-index : goal.invariant-loop-index
invariant-loop-index l = position_or_len (λ b. b == l.quote) l.rest ≡ l.index + position_or_len (λ b. b == l.quote) (drop l.index l.rest)
