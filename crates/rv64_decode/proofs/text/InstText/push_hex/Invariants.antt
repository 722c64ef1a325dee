use Rattle.std.proofs.Common.{◌≡◌, ◌-◌, ◌*◌, ◌/◌, ◌^◌, ◌++◌}
use Rattle.rv64_decode.specs.Text.{hex_digits}
use Rattle.rv64_decode.proofs.text.InstText.push_hex.Given as goal

abbrev pub invariant-loop-i : goal.invariant-loop-i
invariant-loop-i l = l.self ≡ l.fn.self ++ l.before ++ hex_digits l.i (l.number / 2 ^ (4 * (l.count - l.i)))
