use Rattle.std.proofs.Common.{refl}
use Rattle.mem_files.proofs.Changes.{on_err, files_few, more_files-consistent, more_files-world, put_unnamed-consistent, put_unnamed-world}
use Rattle.mem_files.proofs.table.FileTable.put_unnamed.Goals as goal

pub invariant_of-self : goal.invariant_of-self
invariant_of-self c =
    more_files-consistent _ _ c.self.view_is c.self.invariant c.reach.new.cells.items c.reach.ensures.same
    (files_few _ _ c.self.view_is c.self.invariant c.args.number c.requires.unused c.requires.low c.reach.new.cells.items c.reach.ensures.same c.reach.ensures.most)

pub returns-in_err-reach-clause-err : goal.returns-in_err-reach-clause-err
returns-in_err-reach-clause-err c = on_err _ (more_files-world _ _ c.self.view_is c.self.invariant c.reach.new.cells.items c.reach.ensures.same)

pub invariant_of-self-2 : goal.invariant_of-self-2
invariant_of-self-2 c =
    put_unnamed-consistent _ _ c.self.view_is c.self.invariant c.args.number c.requires.unused c.requires.low c.reach.new.cells.items c.reach.ensures.same c.reach.ensures.most
    c.in_ok-reach.ensures.reached c.args.content.now c.in_ok-file.file _ c.in_ok-file.ensures.content refl c.in_ok-file.ensures.name c.insert.new.self c.insert.ensures

pub returns-clause-ok : goal.returns-clause-ok
returns-clause-ok c =
    put_unnamed-world _ _ c.self.view_is c.self.invariant c.args.number c.requires.unused c.requires.low c.reach.new.cells.items c.reach.ensures.same c.reach.ensures.most
    c.in_ok-reach.ensures.reached c.args.content.now c.in_ok-file.file _ c.in_ok-file.ensures.content refl
