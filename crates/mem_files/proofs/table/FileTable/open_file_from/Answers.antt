use Rattle.mem_files.proofs.Shown.{open_file_from-some, open_file_from-none}
use Rattle.mem_files.proofs.table.FileTable.open_file_from.Goals as goal

pub returns-in-Some : goal.returns-in-Some
returns-in-Some c = open_file_from-some _ _ c.self.view_is c.self.invariant c.deref.result.now c.deref.ensures.value c.args.fd c.in-Some.fd c.in-Some.open_file.now c.in-Some.ensures

pub returns-in-None : goal.returns-in-None
returns-in-None c = open_file_from-none _ _ c.self.view_is c.self.invariant c.deref.result.now c.deref.ensures.value c.args.fd c.in-None.ensures
