use Rattle.std.proofs.Common.{◌≡◌, ◌≤◌, ◌*◌, ◌^◌, take, sum_by}
use Rattle.ddc_base.specs.Limits.{most_address}
use Rattle.elf_load.specs.Segments.{paged_size}
use Rattle.elf_load.proofs.checks.pages_together.Given as goal

abbrev pub invariant-loop-segment : goal.invariant-loop-segment
invariant-loop-segment l =
    (l.together ≡ sum_by paged_size (take l.segment-index l.segments)) × (l.together ≤ l.segment-index * most_address)
