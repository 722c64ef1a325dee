use Rattle.std.proofs.Common.{◌≡◌, ◌≤◌, ◌++◌, sym, ap, ◌∙◌, arith, length-append}
use Rattle.std.proofs.lemmas.List.{append-nil}
use Rattle.std.proofs.lemmas.Result.{err_from_is_err_and}
use Rattle.elf_load.specs.Segments.{segments_of}
use Rattle.elf_load.specs.Fields.{e_phnum}
use Rattle.elf_load.proofs.Tables.{loads-on, loads-end}
use Rattle.elf_load.proofs.table.loads.Goals as goal

pub returns-in_err-take_load : goal.returns-in_err-take_load
returns-in_err-take_load c =
    let p = err_from_is_err_and c.from_residual.result c.from_residual.ensures.1 in
    let here = c.in_err-take_load.ensures.value in
    let all = sym (c.loop-index.invariant.0) ∙ loads-on c.args.file.now c.loop-index.index c.loop-index.segments.items (omega arith) in
    rw (p.1, p.2) (here.0, rw (all, length-append, ← c.header_at.ensures.value) (omega (arith, here.1)))

pub returns : goal.returns
returns c =
    let over : e_phnum c.args.file.now ≤ c.loop-index.index = omega arith in
    let all : c.loop-index.segments.items ≡ segments_of c.args.file.now =
    sym (append-nil _) ∙ ap (λ later. c.loop-index.segments.items ++ later) (sym (loads-end c.args.file.now c.loop-index.index over)) ∙ c.loop-index.invariant.0 in
    (all, rw (sym all) (c.loop-index.invariant.1))
