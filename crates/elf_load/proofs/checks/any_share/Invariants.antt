use Rattle.std.proofs.Common.{◌≡◌, drop}
use Rattle.elf_load.specs.Segments.{any_share}
use Rattle.elf_load.proofs.checks.any_share.Given as goal

abbrev pub invariant-loop-index : goal.invariant-loop-index
invariant-loop-index l = any_share (drop l.index l.segments) ≡ any_share l.segments
