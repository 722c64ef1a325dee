use Rattle.std.proofs.Common.{ap, get_or, ◌∙◌}
use Rattle.std.specs.FinMap as map
use Rattle.mem_files.specs.World.{World}
use Rattle.mem_files.specs.declared.open_file.OpenFile.TheVariants.{Input}
use Rattle.mem_files.proofs.ListWorlds.{next_fresh, next_pushed}
use Rattle.mem_files.proofs.table.FileTable.put_open_files.Goals as goal

pub put_open_file-requires-clause-unused : goal.put_open_file-requires-clause-unused
put_open_file-requires-clause-unused c =
    ap (λ (w : World). map.get w.open_files (get_or c.args.open_files.now c.loop-fd.fd-index (0, Input)).0) c.loop-fd.invariant ∙ next_fresh c.args.open_files.now c.loop-fd.fd-index (0, Input) c.loop-fd-test.true c.requires.rise

pub loop-fd-preserved : goal.loop-fd-preserved
loop-fd-preserved c =
    let at = c.loop-fd.fd-index in
    let held = get_or c.args.open_files.now at (0, Input) in
    c.in_ok-put_open_file.ensures.ok ∙ ap (λ (w : World). record w { open_files = map.insert w.open_files held.0 held.1 }) c.loop-fd.invariant
    ∙ ap (λ m. record c.args.self.now { open_files = m }) (next_pushed c.args.open_files.now at (0, Input) c.loop-fd-test.true c.requires.rise)
