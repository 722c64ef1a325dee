use Rattle.std.proofs.Common.{◌≡◌, ◌∙◌, ap, length, None, [], arith}
use Rattle.std.proofs.lemmas.List.{get_or_read}
use Rattle.mem_files.specs.World.{content_of}
use Rattle.mem_files.specs.Inside.Stored.{name_in}
use Rattle.mem_files.proofs.Changes.{file_within, file_full, cell_len, content_le_total, set_file-consistent, set_file-world}
use Rattle.mem_files.proofs.table.FileTable.empty.Goals as goal

pub index-requires : goal.index-requires
index-requires c = omega (arith, file_within _ _ c.self.view_is c.self.invariant c.args.number c.requires)

pub overflow_sub-self : goal.overflow_sub-self
overflow_sub-self c =
    let there = file_within _ _ c.self.view_is c.self.invariant c.args.number c.requires in
    let here = get_or_read c.self.inside.files.items c.args.number c.index.result.now there c.index.ensures None in
    omega (arith, cell_len _ _ c.self.view_is c.self.invariant c.args.number c.index.result.now c.len.result here c.len.ensures, content_le_total _ _ c.self.view_is c.self.invariant c.args.number)

pub index_mut-requires : goal.index_mut-requires
index_mut-requires c = omega (arith, file_within _ _ c.self.view_is c.self.invariant c.args.number c.requires)

pub empty-requires : goal.empty-requires
empty-requires c =
    let there = file_within _ _ c.self.view_is c.self.invariant c.args.number c.requires in
    file_full _ _ c.self.view_is c.self.invariant c.args.number c.index_mut.result.now c.requires (get_or_read c.self.inside.files.items c.args.number c.index_mut.result.now there c.index_mut.ensures.value None)

pub invariant_of-self : goal.invariant_of-self
invariant_of-self c =
    let there = file_within _ _ c.self.view_is c.self.invariant c.args.number c.requires in
    let here = get_or_read c.self.inside.files.items c.args.number c.index.result.now there c.index.ensures None in
    let now = get_or_read c.self.inside.files.items c.args.number c.index_mut.result.now there c.index_mut.ensures.value None in
    let len : c.len.result ≡ length (content_of c.args.self.now c.args.number) = cell_len _ _ c.self.view_is c.self.invariant c.args.number c.index.result.now c.len.result here c.len.ensures in
    set_file-consistent _ _ c.self.view_is c.self.invariant c.args.number c.empty.new.cell [] _ there c.requires c.empty.ensures.content (c.empty.ensures.name ∙ ap name_in now)
    (omega (arith, content_le_total _ _ c.self.view_is c.self.invariant c.args.number))

pub returns : goal.returns
returns c = set_file-world _ _ c.self.view_is c.self.invariant c.args.number c.empty.new.cell [] (file_within _ _ c.self.view_is c.self.invariant c.args.number c.requires) c.empty.ensures.content
