use Rattle.std.proofs.Common.{◌∙◌, ap, refl}
use Rattle.mem_files.specs.Inside.Cells.{keyed}
use Rattle.mem_files.proofs.Directory.{keyed-insert}
use Rattle.mem_files.proofs.Changes.{on_err, whole_key, files_few, more_files-consistent, more_files-world, put_named-consistent, put_named-world}
use Rattle.mem_files.proofs.table.FileTable.put_moved.Goals as goal

pub invariant_of-self : goal.invariant_of-self
invariant_of-self c =
    more_files-consistent _ _ c.self.view_is c.self.invariant c.reach.new.cells.items c.reach.ensures.same
    (files_few _ _ c.self.view_is c.self.invariant c.args.number c.requires.unused c.requires.low c.reach.new.cells.items c.reach.ensures.same c.reach.ensures.most)

pub returns-in_err-reach-clause-err : goal.returns-in_err-reach-clause-err
returns-in_err-reach-clause-err c = on_err _ (more_files-world _ _ c.self.view_is c.self.invariant c.reach.new.cells.items c.reach.ensures.same)

pub invariant_of-self-in_err-insert : goal.invariant_of-self-in_err-insert
invariant_of-self-in_err-insert c =
    rw c.in_err-insert.ensures.err
    (more_files-consistent _ _ c.self.view_is c.self.invariant c.reach.new.cells.items c.reach.ensures.same
    (files_few _ _ c.self.view_is c.self.invariant c.args.number c.requires.unused c.requires.low c.reach.new.cells.items c.reach.ensures.same c.reach.ensures.most))

pub returns-in_err-insert-clause-err : goal.returns-in_err-insert-clause-err
returns-in_err-insert-clause-err c =
    rw c.in_err-insert.ensures.err (on_err _ (more_files-world _ _ c.self.view_is c.self.invariant c.reach.new.cells.items c.reach.ensures.same))

pub invariant_of-self-2 : goal.invariant_of-self-2
invariant_of-self-2 c =
    let whole = whole_key c.args.name.now c.key.result.items c.requires.short c.key.ensures in
    let listed = ap (keyed (λ name. name.items)) c.in_ok-insert.ensures.entries ∙ keyed-insert (λ name. name.items) c.self.inside.names.entries c.key.result c.args.number in
    rw c.byte_count-added.ensures (put_named-consistent _ _ c.self.view_is c.self.invariant c.args.number c.requires.unused c.requires.low c.reach.new.cells.items c.reach.ensures.same c.reach.ensures.most
    c.in_ok-reach.ensures.reached c.args.content.items c.in_ok-file.file _ c.in_ok-file.ensures.content refl
    c.args.name.now c.requires.absent c.requires.short c.in_ok-file.ensures.name _ (rw whole at listed) c.insert-2.new.self c.insert-2.ensures)

pub returns-clause-ok : goal.returns-clause-ok
returns-clause-ok c =
    let whole = whole_key c.args.name.now c.key.result.items c.requires.short c.key.ensures in
    let listed = ap (keyed (λ name. name.items)) c.in_ok-insert.ensures.entries ∙ keyed-insert (λ name. name.items) c.self.inside.names.entries c.key.result c.args.number in
    put_named-world _ _ c.self.view_is c.self.invariant c.args.number c.requires.unused c.requires.low c.reach.new.cells.items c.reach.ensures.same c.reach.ensures.most
    c.in_ok-reach.ensures.reached c.args.content.items c.in_ok-file.file _ c.in_ok-file.ensures.content refl
    c.args.name.now c.requires.absent c.requires.short c.in_ok-file.ensures.name _ (rw whole at listed)
