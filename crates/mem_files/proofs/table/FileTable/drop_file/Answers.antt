use Rattle.std.proofs.Common.{◌≡◌, length, None, arith}
use Rattle.std.proofs.lemmas.List.{get_or_read}
use Rattle.mem_files.specs.World.{content_of}
use Rattle.mem_files.proofs.Changes.{file_within, number_used, cell_len, content_le_total, drop_file-consistent, drop_file-world}
use Rattle.mem_files.proofs.table.FileTable.drop_file.Goals as goal

pub index-requires : goal.index-requires
index-requires c = omega (arith, file_within _ _ c.self.view_is c.self.invariant c.args.number c.requires.held)

pub overflow_sub-self : goal.overflow_sub-self
overflow_sub-self c =
    let there = file_within _ _ c.self.view_is c.self.invariant c.args.number c.requires.held in
    let here = get_or_read c.self.inside.files.items c.args.number c.index.result.now there c.index.ensures None in
    omega (arith, cell_len _ _ c.self.view_is c.self.invariant c.args.number c.index.result.now c.len.result here c.len.ensures, content_le_total _ _ c.self.view_is c.self.invariant c.args.number)

pub index_mut-requires : goal.index_mut-requires
index_mut-requires c = omega (arith, file_within _ _ c.self.view_is c.self.invariant c.args.number c.requires.held)

pub remove-requires : goal.remove-requires
remove-requires c = number_used _ _ c.self.view_is c.self.invariant c.args.number (file_within _ _ c.self.view_is c.self.invariant c.args.number c.requires.held)

pub invariant_of-self : goal.invariant_of-self
invariant_of-self c =
    let there = file_within _ _ c.self.view_is c.self.invariant c.args.number c.requires.held in
    let here = get_or_read c.self.inside.files.items c.args.number c.index.result.now there c.index.ensures None in
    let len : c.len.result ≡ length (content_of c.args.self.now c.args.number) = cell_len _ _ c.self.view_is c.self.invariant c.args.number c.index.result.now c.len.result here c.len.ensures in
    drop_file-consistent _ _ c.self.view_is c.self.invariant c.args.number _ there c.requires.unnamed (omega (arith, content_le_total _ _ c.self.view_is c.self.invariant c.args.number)) c.remove.new.self c.remove.ensures

pub returns : goal.returns
returns c = drop_file-world _ _ c.self.view_is c.self.invariant c.args.number (file_within _ _ c.self.view_is c.self.invariant c.args.number c.requires.held)
