use Rattle.std.proofs.Common.{◌≡◌, ℕ, ◌+◌, ◌*◌, ◌<◌, get_or}
use Rattle.report.specs.Inside.Fields.{digit_value}
use Rattle.report.proofs.fields.bytes_of.Given as goal

abbrev pub invariant-loop-index : goal.invariant-loop-index
invariant-loop-index l = (k : ℕ) → k < l.index → get_or l.byte-items k 0 ≡ 16 * digit_value (get_or l.word (2 * k) 0) + digit_value (get_or l.word (2 * k + 1) 0)
