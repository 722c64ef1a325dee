use Rattle.mem_files.proofs.Shown.{file_from-some, file_from-none}
use Rattle.mem_files.proofs.table.FileTable.file_from.Goals as goal

pub returns-in-Some : goal.returns-in-Some
returns-in-Some c =
    file_from-some _ _ c.self.view_is c.self.invariant c.deref.result.now c.deref.ensures.value c.args.number c.in-Some.number c.in-Some.file.now c.view.result c.in-Some.ensures
    c.view.ensures.number c.view.ensures.name c.view.ensures.content

pub returns-in-None : goal.returns-in-None
returns-in-None c = file_from-none _ _ c.self.view_is c.self.invariant c.deref.result.now c.deref.ensures.value c.args.number c.in-None.ensures
