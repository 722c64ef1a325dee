use Rattle.std.proofs.Common.{arith}
use Rattle.mem_files.proofs.Changes.{open_file_within, set_open_file-consistent, set_open_file-world}
use Rattle.mem_files.proofs.table.FileTable.set_open_file.Goals as goal

pub index_mut-requires : goal.index_mut-requires
index_mut-requires c = omega (arith, open_file_within _ _ c.self.view_is c.self.invariant c.args.fd c.requires.held)

pub invariant_of-self : goal.invariant_of-self
invariant_of-self c = set_open_file-consistent _ _ c.self.view_is c.self.invariant c.args.fd c.args.open_file c.requires.held c.requires.same_file

pub returns : goal.returns
returns c = set_open_file-world _ _ c.self.view_is c.self.invariant c.args.fd c.args.open_file c.requires.held
