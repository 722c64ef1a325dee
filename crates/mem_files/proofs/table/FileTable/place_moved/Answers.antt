use Rattle.std.proofs.Common.{sym, ◌∙◌, arith}
use Rattle.mem_files.proofs.Keeping.{lowest_number-le}
use Rattle.mem_files.proofs.KeepingCalls.{not_full}
use Rattle.mem_files.proofs.Rules.{kept_of}
use Rattle.mem_files.proofs.table.FileTable.place_moved.Goals as goal

pub add_moved-requires-clause-few : goal.add_moved-requires-clause-few
add_moved-requires-clause-few c =
    omega (arith, lowest_number-le c.args.self.now (kept_of c.args.self.now c.requires), (not_full c.args.self.now c.len.result (sym c.is_full.ensures ∙ c.if-is_full.false)).2)
