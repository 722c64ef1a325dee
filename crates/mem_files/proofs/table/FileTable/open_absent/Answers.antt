use Rattle.std.proofs.Common.{◌≡◌, ◌∙◌, sym, ap, true, arith}
use Rattle.mem_files.specs.World.{World, lowest_unused}
use Rattle.mem_files.specs.Calls.{has}
use Rattle.mem_files.specs.Linux.{o_creat}
use Rattle.mem_files.proofs.Keeping.{lowest_number-le}
use Rattle.mem_files.proofs.Rules.{kept_of}
use Rattle.mem_files.proofs.Opening.{taken, taken_back, absent_opens}
use Rattle.mem_files.proofs.table.FileTable.open_absent.Goals as goal

pub add_file-requires-clause-few : goal.add_file-requires-clause-few
add_file-requires-clause-few c =
    omega (arith, ap (λ (w : World). lowest_unused w.files) c.in_ok-fd.ensures.ok.1, lowest_number-le c.args.self.now (kept_of c.args.self.now c.requires.sound))

pub clear_open_file-requires : goal.clear_open_file-requires
clear_open_file-requires c = taken c.args.self.now c.add_file.new.self c.in_ok-fd.fd _ c.in_ok-fd.ensures.ok.0 (c.in-Err.ensures.err ∙ c.in_ok-fd.ensures.ok.1)

pub returns-in-Err : goal.returns-in-Err
returns-in-Err c =
    let creates : has c.args.flags o_creat ≡ true = sym c.has.ensures ∙ c.if-not-has.false in
    rw c.into.ensures (
      absent_opens c.args.self.now c.args.name.now c.args.flags creates (omega arith),
      c.clear_open_file.ensures ∙ taken_back c.args.self.now c.add_file.new.self c.in_ok-fd.fd _ c.in_ok-fd.ensures.ok.0 (c.in-Err.ensures.err ∙ c.in_ok-fd.ensures.ok.1),
    )
