use Rattle.std.proofs.Common.{true, false, length, arith, sym, ap, ◌∙◌}
use Rattle.paged_mem.proofs.Flats.{held_pages-item, held_pages-past}
use Rattle.paged_mem.proofs.entries.count_held.Goals.{then-is_some, else-is_some}
use Rattle.paged_mem.proofs.entries.count_held.Goals as goal

pub loop-entry-preserved : goal.loop-entry-preserved
loop-entry-preserved c =
    elim c.if-is_some.branch [
      | then-is_some w ↦ (
        omega (arith, c.loop-entry.invariant.0, w.count-is),
        λ pages long. omega (
          arith,
          c.loop-entry.invariant.1 pages long,
          w.count-is,
          held_pages-item pages c.args.entries.now c.loop-entry.entry-index c.entry-item.result true long c.loop-entry-test.true c.entry-item.is (sym w.if-is_some.true ∙ c.is_some.ensures),
        ),
      )
      | else-is_some w ↦ (
        omega (arith, c.loop-entry.invariant.0, w.count-is),
        λ pages long. omega (
          arith,
          c.loop-entry.invariant.1 pages long,
          w.count-is,
          held_pages-item pages c.args.entries.now c.loop-entry.entry-index c.entry-item.result false long c.loop-entry-test.true c.entry-item.is (sym w.if-is_some.false ∙ c.is_some.ensures),
        ),
      )
    ]

pub returns : goal.returns
returns c pages long =
    omega (arith, c.loop-entry.invariant.1 pages long, ap length (held_pages-past pages c.args.entries.now c.loop-entry.entry-index c.loop-entry-test.false))
