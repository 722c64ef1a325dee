use Rattle.std.proofs.Common.{sym, ap, subst, ◌≡◌, ◌∙◌}
use Rattle.paged_mem.specs.Inside.Entries.{ArePages, flat, held_pages}
use Rattle.paged_mem.specs.Inside.Flat.{memory_of}
use Rattle.paged_mem.proofs.Opened.{are_opened, closed_again, held_opened, memory_opened}
use Rattle.paged_mem.proofs.mapping.map_entries.Goals as goal

pub returns-in-Ok-clause-pages : goal.returns-in-Ok-clause-pages
returns-in-Ok-clause-pages c =
    are_opened c.args.pages.now.items c.args.entries.now.items c.deref.result.now c.requires.pages c.args.first c.args.count c.rank-at.result c.requires.aligned c.deref.ensures.value c.rank-at.ensures
    c.requires.low c.requires.free _ _ c.in-Ok.ensures.ok c.in_ok-open_entries.ensures.ok

pub returns-in-Ok-clause-held : goal.returns-in-Ok-clause-held
returns-in-Ok-clause-held c =
    held_opened c.args.pages.now.items c.args.entries.now.items c.deref.result.now c.requires.pages c.args.first c.args.count c.rank-at.result c.requires.aligned c.deref.ensures.value c.rank-at.ensures
    c.requires.low c.requires.free _ _ c.in-Ok.ensures.ok c.in_ok-open_entries.ensures.ok

pub returns-in-Ok-clause-ok : goal.returns-in-Ok-clause-ok
returns-in-Ok-clause-ok c =
    memory_opened c.args.pages.now.items c.args.entries.now.items c.deref.result.now c.requires.pages c.args.first c.args.count c.rank-at.result c.requires.aligned c.deref.ensures.value c.rank-at.ensures
    c.requires.low c.requires.free _ _ c.in-Ok.ensures.ok c.in_ok-open_entries.ensures.ok

-- the gap among the entries is closed again
entries_back : (c : goal.After-close_gap) → c.close_gap.new.list.items ≡ c.args.entries.now.items
entries_back c =
    closed_again c.args.pages.now.items c.args.entries.now.items c.deref.result.now c.requires.pages c.args.first c.args.count c.rank-at.result c.requires.aligned c.deref.ensures.value c.rank-at.ensures
    _ _ c.in_ok-open_entries.ensures.ok c.close_gap.ensures

pub returns-in-Err-clause-pages : goal.returns-in-Err-clause-pages
returns-in-Err-clause-pages c =
    subst (λ pages. ArePages pages c.close_gap.new.list.items) (sym c.in-Err.ensures.err)
    (subst (ArePages c.args.pages.now.items) (sym (entries_back c)) c.requires.pages)

pub returns-in-Err-clause-held : goal.returns-in-Err-clause-held
returns-in-Err-clause-held c =
    ap (λ pages. held_pages pages c.close_gap.new.list.items) c.in-Err.ensures.err ∙ ap (held_pages c.args.pages.now.items) (entries_back c)

pub returns-in-Err-clause-err : goal.returns-in-Err-clause-err
returns-in-Err-clause-err c =
    ap (λ pages. memory_of pages (flat c.close_gap.new.list.items)) c.in-Err.ensures.err
    ∙ ap (λ entries. memory_of c.args.pages.now.items (flat entries)) (entries_back c)
