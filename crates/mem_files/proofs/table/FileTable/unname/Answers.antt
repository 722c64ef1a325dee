use Rattle.std.proofs.Common.{◌∙◌, ap, None, arith}
use Rattle.std.proofs.lemmas.List.{get_or_read}
use Rattle.std.specs.Map.{remove_entry}
use Rattle.std.specs.Ordering.{is_eq}
use Rattle.mem_files.specs.Names.{bytes_cmp}
use Rattle.mem_files.specs.Inside.Stored.{content_in}
use Rattle.mem_files.specs.Inside.Cells.{keyed}
use Rattle.mem_files.proofs.Directory.{keyed-remove}
use Rattle.mem_files.proofs.Changes.{whole_key, name_short, in_order, named_within, unname-consistent, unname-world}
use Rattle.mem_files.proofs.table.FileTable.unname.Goals as goal

pub index_mut-requires : goal.index_mut-requires
index_mut-requires c = omega (arith, named_within _ _ c.self.view_is c.self.invariant c.args.name.now c.args.number c.requires)

pub invariant_of-self : goal.invariant_of-self
invariant_of-self c =
    let there = named_within _ _ c.self.view_is c.self.invariant c.args.name.now c.args.number c.requires in
    let now = get_or_read c.self.inside.files.items c.args.number c.index_mut.result.now there c.index_mut.ensures.value None in
    let whole = whole_key c.args.name.now c.key.result.items (name_short _ _ c.self.view_is c.self.invariant c.args.name.now c.args.number c.requires) c.key.ensures in
    let listed = ap (keyed (λ name. name.items)) (c.remove.ensures.entries ∙ ap (λ bytes. remove_entry (λ k. is_eq (bytes_cmp bytes k.items)) c.self.inside.names.entries) whole)
    ∙ keyed-remove (λ name. name.items) c.args.name.now c.self.inside.names.entries (in_order _ _ c.self.view_is c.self.invariant) in
    rw listed (unname-consistent _ _ c.self.view_is c.self.invariant c.args.name.now c.args.number c.unname.new.cell c.requires c.unname.ensures.name (c.unname.ensures.content ∙ ap content_in now))

pub returns : goal.returns
returns c =
    let there = named_within _ _ c.self.view_is c.self.invariant c.args.name.now c.args.number c.requires in
    let now = get_or_read c.self.inside.files.items c.args.number c.index_mut.result.now there c.index_mut.ensures.value None in
    let whole = whole_key c.args.name.now c.key.result.items (name_short _ _ c.self.view_is c.self.invariant c.args.name.now c.args.number c.requires) c.key.ensures in
    let listed = ap (keyed (λ name. name.items)) (c.remove.ensures.entries ∙ ap (λ bytes. remove_entry (λ k. is_eq (bytes_cmp bytes k.items)) c.self.inside.names.entries) whole)
    ∙ keyed-remove (λ name. name.items) c.args.name.now c.self.inside.names.entries (in_order _ _ c.self.view_is c.self.invariant) in
    rw listed (unname-world _ _ c.self.view_is c.self.invariant c.args.name.now c.args.number c.unname.new.cell (c.unname.ensures.content ∙ ap content_in now))
