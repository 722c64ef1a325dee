use Rattle.std.proofs.Common.{length, ap, ◌∙◌, arith}
use Rattle.std.proofs.lemmas.Result.{on_ok_weaker}
use Rattle.paged_mem.specs.Memory.{with_bytes}
use Rattle.guest_run.specs.Placed.{with_stack}
use Rattle.guest_run.proofs.SegmentAddresses.{maps-within}
use Rattle.guest_run.proofs.placing.place_stack.Goals as goal

pub write_mapped-requires : goal.write_mapped-requires
write_mapped-requires g c =
    rw c.in_ok-map_zero.ensures.ok
    (maps-within _ _ _ c.args.at (length c.args.bytes.now) c.requires.low (omega arith))

pub returns : goal.returns
unfolding with_stack
returns g c =
    on_ok_weaker c.write_mapped.result
    (λ new. new ∙ ap (λ m. with_bytes m c.args.at c.args.bytes.now) c.in_ok-map_zero.ensures.ok)
    c.write_mapped.ensures
