use Rattle.std.proofs.Common.{Some, sym, ap, ◌∙◌, arith}
use Rattle.paged_mem.specs.Inside.Entries.{page_content}
use Rattle.paged_mem.proofs.Accessed.{few_entries, page_shown, index_within}
use Rattle.paged_mem.proofs.Maps.{bytes_at-none}
use Rattle.paged_mem.proofs.Runs.{get_absent}
use Rattle.paged_mem.proofs.access.page_at.Goals as goal

pub bounds-entries-index : goal.bounds-entries-index
bounds-entries-index c = index_within c.args.pages.now c.args.entries.now c.requires.pages _ c.in-Some.index (sym c.in-Some.ensures)

pub offset_bounds-entries-index : goal.offset_bounds-entries-index
offset_bounds-entries-index c =
    let within = index_within c.args.pages.now c.args.entries.now c.requires.pages _ c.in-Some.index (sym c.in-Some.ensures) in
    omega (arith, within, few_entries c.args.pages.now c.args.entries.now c.requires.pages)

pub returns-in-None : goal.returns-in-None
returns-in-None c =
    sym (bytes_at-none _ c.args.first 4096 c.args.first (omega arith) (omega arith) (get_absent c.args.pages.now _ c.requires.pages.sound c.args.first (sym c.in-None.ensures)))

pub returns-in-None-entries : goal.returns-in-None-entries
returns-in-None-entries c =
    ap (λ entry. Some (page_content entry)) (sym c.in-None-entries.is)
    ∙ page_shown c.args.pages.now c.args.entries.now c.requires.pages c.args.first c.in-Some.index c.index-entries-index.result c.requires.aligned (sym c.in-Some.ensures) c.index-entries-index.is

pub returns-in-Some-entries : goal.returns-in-Some-entries
returns-in-Some-entries c =
    ap Some c.deref.ensures ∙ ap (λ entry. Some (page_content entry)) (sym c.in-Some-entries.is)
    ∙ page_shown c.args.pages.now c.args.entries.now c.requires.pages c.args.first c.in-Some.index c.index-entries-index.result c.requires.aligned (sym c.in-Some.ensures) c.index-entries-index.is
