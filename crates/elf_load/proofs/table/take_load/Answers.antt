use Rattle.std.proofs.Common.{◌≡◌, true, false, length, sym, refl, arith, length-append}
use Rattle.std.proofs.lemmas.List.{append-nil}
use Rattle.std.proofs.lemmas.Bool.Decides.{nat_tests}
use Rattle.elf_load.specs.Segments.{is_load}
use Rattle.elf_load.proofs.Tables.{loads-one, loads-other}
use Rattle.elf_load.proofs.table.take_load.Goals as goal

pub returns-then-not-is_load-clause-value : goal.returns-then-not-is_load-clause-value
returns-then-not-is_load-clause-value c =
    let no : is_load c.args.file.now c.args.header ≡ false = cc in
    rw (loads-other c.args.file.now c.args.header no) (sym (append-nil _))

pub returns-then-is_full-clause-value : goal.returns-then-is_full-clause-value
returns-then-is_full-clause-value c =
    let yes : is_load c.args.file.now c.args.header ≡ true = cc in
    let full : length c.args.segments.now.items ≡ 16 = grind (arith, nat_tests) in
    (refl, rw (loads-one c.args.file.now c.args.header yes, length-append) (omega arith))
