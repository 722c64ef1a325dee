use Rattle.std.proofs.Common.{arith}
use Rattle.mem_files.proofs.CellMaps.{len-map_of}
use Rattle.mem_files.proofs.Changes.{on_err, opens_small, open_files_few, more_open_files-consistent, more_open_files-world, put_open_file-consistent, put_open_file-world}
use Rattle.mem_files.proofs.table.FileTable.put_open_file.Goals as goal

pub invariant_of-self : goal.invariant_of-self
invariant_of-self c =
    more_open_files-consistent _ _ c.self.view_is c.self.invariant c.reach.new.cells.items c.reach.ensures.same
    (open_files_few _ _ c.self.view_is c.self.invariant c.args.fd c.args.open_file c.requires.unused c.requires.low c.reach.new.cells.items c.reach.ensures.same c.reach.ensures.most)

pub returns-in_err-reach-clause-err : goal.returns-in_err-reach-clause-err
returns-in_err-reach-clause-err c = on_err _ (more_open_files-world _ _ c.self.view_is c.self.invariant c.reach.new.cells.items c.reach.ensures.same)

pub count-requires : goal.count-requires
count-requires c = λ number. omega (arith, opens_small _ _ c.self.view_is c.self.invariant number)

pub invariant_of-self-in_err-count : goal.invariant_of-self-in_err-count
invariant_of-self-in_err-count c =
    rw c.in_err-count.ensures.err
    (more_open_files-consistent _ _ c.self.view_is c.self.invariant c.reach.new.cells.items c.reach.ensures.same
    (open_files_few _ _ c.self.view_is c.self.invariant c.args.fd c.args.open_file c.requires.unused c.requires.low c.reach.new.cells.items c.reach.ensures.same c.reach.ensures.most))

pub returns-in_err-count-clause-err : goal.returns-in_err-count-clause-err
returns-in_err-count-clause-err c = on_err _ (more_open_files-world _ _ c.self.view_is c.self.invariant c.reach.new.cells.items c.reach.ensures.same)

pub overflow_add-self : goal.overflow_add-self
overflow_add-self c = omega (arith, c.self.invariant.open_files_fit.counted, c.self.invariant.open_files_fit.few, len-map_of c.self.inside.open_files.items)

pub invariant_of-self-2 : goal.invariant_of-self-2
invariant_of-self-2 c =
    put_open_file-consistent _ _ c.self.view_is c.self.invariant c.args.fd c.args.open_file c.requires.unused c.requires.low c.reach.new.cells.items c.reach.ensures.same c.reach.ensures.most
    c.in_ok-reach.ensures.reached c.insert.new.self c.insert.ensures c.count.new.counts.items c.in_ok-count.ensures.ok

pub returns-clause-ok : goal.returns-clause-ok
returns-clause-ok c = put_open_file-world _ _ c.self.view_is c.self.invariant c.args.fd c.args.open_file c.requires.unused c.requires.low c.reach.new.cells.items c.reach.ensures.same c.reach.ensures.most c.in_ok-reach.ensures.reached
