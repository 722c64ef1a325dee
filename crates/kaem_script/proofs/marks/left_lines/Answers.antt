use Rattle.std.proofs.Common.{map, sym, ap}
use Rattle.std.specs.FinMap as finite
use Rattle.mem_files.proofs.Walks.{walk-name, walk-shorter, walk-start}
use Rattle.kaem_script.proofs.Renewing.{line_at, lines-step, lines-whole}
use Rattle.kaem_script.proofs.marks.left_lines.Goals as goal

pub loop-name-init : goal.loop-name-init
loop-name-init c = rw c.new-lines.ensures (ap (map (line_at c.args.files.now)) (walk-start (finite.keys c.args.files.now.names)))

pub line_of-requires : goal.line_of-requires
line_of-requires c = walk-name c.args.files.now _ _ c.show_sound.ensures (sym c.in-Some.ensures)

pub loop-name-smaller : goal.loop-name-smaller
loop-name-smaller c = walk-shorter c.args.files.now _ _ (sym c.in-Some.ensures)

pub loop-name-preserved : goal.loop-name-preserved
loop-name-preserved c =
    rw (c.in_ok-push.ensures.ok, c.in_ok-line_of.ensures)
    (lines-step c.args.files.now _ _ _ _ (sym c.in-Some.ensures) c.loop-name.invariant)

pub returns : goal.returns
returns c = lines-whole c.args.files.now _ _ (sym c.in_default.ensures) c.loop-name.invariant
