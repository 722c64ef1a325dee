use Rattle.std.proofs.Common.{◌≡◌, [], take}
use Rattle.std.specs.FinMap as fin
use Rattle.ddc_base.specs.Limits.{usual_heap}
use Rattle.kaem_script.proofs.command.start.Given as goal

abbrev pub invariant-loop-word : goal.invariant-loop-word
invariant-loop-word l = l.context ≡ record { args = take l.word-index l.words; env = []; files = fin.empty; heap = usual_heap }
