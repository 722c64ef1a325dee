use Rattle.std.proofs.Common.{sym, subst}
use Rattle.mem_files.specs.World.{World}
use Rattle.mem_files.specs.Inside.Kept.{HasFile}
use Rattle.mem_files.proofs.KeepingCalls.{has_file}
use Rattle.mem_files.proofs.Rules.{kept_of}
use Rattle.mem_files.proofs.table.FileTable.close.Goals as goal

pub release-requires : goal.release-requires
release-requires c = subst (λ (w : World). HasFile w c.in-Some.open_file) (sym c.clear_open_file.ensures) (has_file c.args.self.now c.args.fd c.in-Some.open_file (kept_of c.args.self.now c.requires) c.in-Some.ensures)
