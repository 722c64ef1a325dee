use Rattle.std.proofs.Common.{◌≡◌, ◌≤◌, ◌^◌, take, max}
use Rattle.std.specs.List.{fold}
use Rattle.ddc_base.specs.Limits.{most_address}
use Rattle.elf_load.specs.Segments.{segment_end}
use Rattle.elf_load.proofs.checks.break_after.Given as goal

abbrev pub invariant-loop-segment : goal.invariant-loop-segment
invariant-loop-segment l =
    (l.end ≡ fold (λ most segment. max most (segment_end segment)) 0 (take l.segment-index l.segments)) × (l.end ≤ most_address)
