use Rattle.std.proofs.Common.{sym, ap, ◌∙◌, is_some, arith}
use Rattle.std.proofs.lemmas.List.{get_or_default}
use Rattle.paged_mem.specs.Inside.Flat.{overwritten}
use Rattle.paged_mem.specs.Memory.{bytes_of}
use Rattle.paged_mem.specs.Ram.{count_of}
use Rattle.paged_mem.proofs.Accessed.{are_near, count_some, few_entries, held_near, low_bytes, memory_near, index_within, small-bytes_of}
use Rattle.paged_mem.proofs.Numbers.{length-bytes_of}
use Rattle.paged_mem.proofs.access.store_near.Goals as goal

pub bounds-entries-index : goal.bounds-entries-index
bounds-entries-index c = index_within c.args._pages.now c.args.entries.now c.requires.pages _ c.in-Some.index (c.in-Some.ensures c.args._pages.now c.requires.pages.sound.rising c.requires.rows)

pub offset_bounds-entries-index : goal.offset_bounds-entries-index
offset_bounds-entries-index c =
    let within = index_within c.args._pages.now c.args.entries.now c.requires.pages _ c.in-Some.index (c.in-Some.ensures c.args._pages.now c.requires.pages.sound.rising c.requires.rows) in
    omega (arith, within, few_entries c.args._pages.now c.args.entries.now c.requires.pages)

pub bounds-entries-index-then-is_some : goal.bounds-entries-index-then-is_some
bounds-entries-index-then-is_some c = index_within c.args._pages.now c.args.entries.now c.requires.pages _ c.in-Some.index (c.in-Some.ensures c.args._pages.now c.requires.pages.sound.rising c.requires.rows)

pub offset_bounds-entries-index-then-is_some : goal.offset_bounds-entries-index-then-is_some
offset_bounds-entries-index-then-is_some c =
    let within = index_within c.args._pages.now c.args.entries.now c.requires.pages _ c.in-Some.index (c.in-Some.ensures c.args._pages.now c.requires.pages.sound.rising c.requires.rows) in
    omega (arith, within, few_entries c.args._pages.now c.args.entries.now c.requires.pages)

pub put_into-requires-clause-held : goal.put_into-requires-clause-held
put_into-requires-clause-held c =
    let within = index_within c.args._pages.now c.args.entries.now c.requires.pages _ c.in-Some.index (c.in-Some.ensures c.args._pages.now c.requires.pages.sound.rising c.requires.rows) in
    ap is_some (get_or_default c.args.entries.now c.in-Some.index _ c.index-entries-index.result within)
    ∙ sym c.is_some.ensures ∙ c.if-is_some.true

pub returns-then-is_some-clause-pages : goal.returns-then-is_some-clause-pages
returns-then-is_some-clause-pages c =
    let bytes = bytes_of (count_of c.args.width) c.args.value in
    let long = length-bytes_of (count_of c.args.width) c.args.value in
    are_near c.args._pages.now c.args.entries.now c.requires.pages c.args.at c.in-Some.index bytes c.put_into.new.entry c.index-entries-index-then-is_some.result
    (omega (arith, long, count_some c.args.width)) (omega (arith, long, c.count-count.ensures, c.if-low-count-le-PAGE_LEN.true))
    (c.in-Some.ensures c.args._pages.now c.requires.pages.sound.rising c.requires.rows)
    (c.put_into.ensures.content ∙ ap (overwritten _ _) (low_bytes c.args.width c.args.value _ _ c.count-count.ensures c.to_le_bytes-bytes.ensures))
    c.put_into.ensures.full (small-bytes_of (count_of c.args.width) c.args.value)

pub returns-then-is_some-clause-stores : goal.returns-then-is_some-clause-stores
returns-then-is_some-clause-stores c =
    let bytes = bytes_of (count_of c.args.width) c.args.value in
    let long = length-bytes_of (count_of c.args.width) c.args.value in
    memory_near c.args._pages.now c.args.entries.now c.requires.pages c.args.at c.in-Some.index bytes c.put_into.new.entry c.index-entries-index-then-is_some.result
    (omega (arith, long, count_some c.args.width)) (omega (arith, long, c.count-count.ensures, c.if-low-count-le-PAGE_LEN.true))
    (c.in-Some.ensures c.args._pages.now c.requires.pages.sound.rising c.requires.rows)
    (c.put_into.ensures.content ∙ ap (overwritten _ _) (low_bytes c.args.width c.args.value _ _ c.count-count.ensures c.to_le_bytes-bytes.ensures))

pub returns-then-is_some-clause-held : goal.returns-then-is_some-clause-held
returns-then-is_some-clause-held c =
    let within = index_within c.args._pages.now c.args.entries.now c.requires.pages _ c.in-Some.index (c.in-Some.ensures c.args._pages.now c.requires.pages.sound.rising c.requires.rows) in
    let was = ap is_some (get_or_default c.args.entries.now c.in-Some.index c.index-entries-index-then-is_some.result c.index-entries-index.result within)
    ∙ sym c.is_some.ensures ∙ c.if-is_some.true in
    held_near c.args._pages.now c.args.entries.now c.requires.pages _ c.in-Some.index c.put_into.new.entry c.index-entries-index-then-is_some.result
    (c.in-Some.ensures c.args._pages.now c.requires.pages.sound.rising c.requires.rows) was c.put_into.ensures.held
