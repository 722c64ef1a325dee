use Rattle.std.proofs.Common.{◌∙◌, ◌+◌, ◌<◌, sym, ap, length, None, Some, arith}
use Rattle.std.proofs.lemmas.List.{get_or_read}
use Rattle.mem_files.specs.World.{content_of, total}
use Rattle.mem_files.specs.Calls.{written_over}
use Rattle.mem_files.specs.Inside.Stored.{name_in, content_in}
use Rattle.mem_files.proofs.Overwrites.{length-written_over}
use Rattle.mem_files.proofs.Changes.{on_err, file_within, file_full, content-is, set_file-consistent, set_file-world, same_file-consistent, same_file-world}
use Rattle.mem_files.proofs.table.FileTable.overwrite.Goals as goal

pub index_mut-requires : goal.index_mut-requires
index_mut-requires c = omega (arith, file_within _ _ c.self.view_is c.self.invariant c.args.number c.requires.held)

pub overwrite-requires-clause-held : goal.overwrite-requires-clause-held
overwrite-requires-clause-held c =
    let there = file_within _ _ c.self.view_is c.self.invariant c.args.number c.requires.held in
    file_full _ _ c.self.view_is c.self.invariant c.args.number c.index_mut.result.now c.requires.held (get_or_read c.self.inside.files.items c.args.number c.index_mut.result.now there c.index_mut.ensures.value None)

pub invariant_of-self : goal.invariant_of-self
invariant_of-self c =
    let there = file_within _ _ c.self.view_is c.self.invariant c.args.number c.requires.held in
    let now = get_or_read c.self.inside.files.items c.args.number c.index_mut.result.now there c.index_mut.ensures.value None in
    same_file-consistent _ _ c.self.view_is c.self.invariant c.args.number c.overwrite.new.cell there (c.in_err-added.ensures.err ∙ ap content_in now) (c.in_err-added.ensures.name ∙ ap name_in now)

pub returns-in_err-added-clause-err : goal.returns-in_err-added-clause-err
returns-in_err-added-clause-err c =
    let there = file_within _ _ c.self.view_is c.self.invariant c.args.number c.requires.held in
    let now = get_or_read c.self.inside.files.items c.args.number c.index_mut.result.now there c.index_mut.ensures.value None in
    on_err _ (same_file-world _ _ c.self.view_is c.self.invariant c.args.number c.overwrite.new.cell (c.in_err-added.ensures.err ∙ ap content_in now))

pub overflow_add-self : goal.overflow_add-self
overflow_add-self c =
    let there = file_within _ _ c.self.view_is c.self.invariant c.args.number c.requires.held in
    let now = get_or_read c.self.inside.files.items c.args.number c.index_mut.result.now there c.index_mut.ensures.value None in
    omega (arith, c.in_ok-added.ensures.added, ap length (content-is _ _ c.self.view_is c.self.invariant c.args.number c.index_mut.result.now now), c.self.invariant.bytes_counted, ap total c.self.view_is)

pub invariant_of-self-2 : goal.invariant_of-self-2
invariant_of-self-2 c =
    let there = file_within _ _ c.self.view_is c.self.invariant c.args.number c.requires.held in
    let now = get_or_read c.self.inside.files.items c.args.number c.index_mut.result.now there c.index_mut.ensures.value None in
    let old = content-is _ _ c.self.view_is c.self.invariant c.args.number c.index_mut.result.now now in
    set_file-consistent _ _ c.self.view_is c.self.invariant c.args.number c.overwrite.new.cell (written_over (content_of c.args.self.now c.args.number) c.args.offset c.args.bytes.now) _ there c.requires.held
    (c.in_ok-added.ensures.ok ∙ ap (λ l. Some (written_over l c.args.offset c.args.bytes.now)) (sym old)) (c.in_ok-added.ensures.name ∙ ap name_in now)
    (omega (arith, c.in_ok-added.ensures.added, ap length old, length-written_over (content_of c.args.self.now c.args.number) c.args.offset c.args.bytes.now))

pub returns-clause-ok : goal.returns-clause-ok
returns-clause-ok c =
    let there = file_within _ _ c.self.view_is c.self.invariant c.args.number c.requires.held in
    let now = get_or_read c.self.inside.files.items c.args.number c.index_mut.result.now there c.index_mut.ensures.value None in
    let old = content-is _ _ c.self.view_is c.self.invariant c.args.number c.index_mut.result.now now in
    set_file-world _ _ c.self.view_is c.self.invariant c.args.number c.overwrite.new.cell (written_over (content_of c.args.self.now c.args.number) c.args.offset c.args.bytes.now) there
    (c.in_ok-added.ensures.ok ∙ ap (λ l. Some (written_over l c.args.offset c.args.bytes.now)) (sym old))

pub returns-in_err-added-clause-short : goal.returns-in_err-added-clause-short
returns-in_err-added-clause-short c =
    let there = file_within _ _ c.self.view_is c.self.invariant c.args.number c.requires.held in
    let now = get_or_read c.self.inside.files.items c.args.number c.index_mut.result.now there c.index_mut.ensures.value None in
    let old = content-is _ _ c.self.view_is c.self.invariant c.args.number c.index_mut.result.now now in
    let short : length (content_of c.args.self.now c.args.number) < c.args.offset + length c.args.bytes.now = omega (arith, c.in_err-added.ensures.short, ap length old) in
    on_err _ short
