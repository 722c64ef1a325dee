use Rattle.std.proofs.Common.{◌≡◌, ◌+◌, ◌-◌, length}
use Rattle.linux_calls.specs.Paths.{text_at}
use Rattle.linux_calls.proofs.Texts.{after}
use Rattle.linux_calls.proofs.path.read_text.Given as goal

-- what is read so far stands before the text that is left
abbrev pub invariant-loop-i : goal.invariant-loop-i
invariant-loop-i g l =
    (length l.text.items ≡ l.i) × (text_at (g.R.Ram.bytes l.ram) l.at 256 ≡ after l.text.items (text_at (g.R.Ram.bytes l.ram) (l.at + l.i) (256 - l.i)))
