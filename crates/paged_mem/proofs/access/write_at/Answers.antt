use Rattle.std.proofs.Common.{None, Some, length, refl, sym, ap, ◌∙◌, arith}
use Rattle.paged_mem.specs.Inside.Entries.{flat}
use Rattle.paged_mem.specs.Inside.Flat.{memory_of, overwritten}
use Rattle.paged_mem.proofs.Accessed.{are_written, few, few_entries, memory_written, nothing_written, positive, touches_unheld}
use Rattle.paged_mem.proofs.Seen.{maps_seen}
use Rattle.paged_mem.proofs.access.write_at.Goals as goal

pub returns-then-is_empty-clause-writes : goal.returns-then-is_empty-clause-writes
returns-then-is_empty-clause-writes c = nothing_written _ c.args.at c.args.source.now (sym c.is_empty.ensures ∙ c.if-is_empty.true)

pub start_of-requires-clause-few : goal.start_of-requires-clause-few
start_of-requires-clause-few c = few c.args.pages.now c.args.entries.now c.requires.pages

pub returns-in_default-clause-writes : goal.returns-in_default-clause-writes
returns-in_default-clause-writes c = (
  maps_seen c.args.pages.now (flat c.args.entries.now) c.args.pages.now (memory_of c.args.pages.now (flat c.args.entries.now)) c.requires.pages.sound refl refl
      c.args.at (length c.args.source.now) None c.in_default.ensures,
  refl,
)

pub overflow_add-end : goal.overflow_add-end
overflow_add-end c = omega (arith, c.in-Some.ensures.0, few c.args.pages.now c.args.entries.now c.requires.pages)

pub write-requires-clause-few : goal.write-requires-clause-few
write-requires-clause-few c = omega (arith, c.take_memory.ensures.len, few_entries c.args.pages.now c.args.entries.now c.requires.pages)

pub returns-in-Ok-clause-pages : goal.returns-in-Ok-clause-pages
returns-in-Ok-clause-pages c =
    are_written c.args.pages.now c.args.entries.now c.requires.pages c.args.at c.in-Some.start c.args.source.now c.write.new.entries
    (c.write.ensures.bytes ∙ ap (λ xs. overwritten xs c.in-Some.start c.args.source.now) c.take_memory.ensures.bytes)
    (c.write.auto.entries ∙ c.take_memory.ensures.len) c.write.ensures.full c.in-Some.ensures (λ i. omega (arith, c.type_inv.source i))

pub returns-in-Ok-clause-writes : goal.returns-in-Ok-clause-writes
returns-in-Ok-clause-writes c =
    memory_written c.args.pages.now c.args.entries.now c.requires.pages c.args.at c.in-Some.start c.args.source.now c.write.new.entries
    (c.write.ensures.bytes ∙ ap (λ xs. overwritten xs c.in-Some.start c.args.source.now) c.take_memory.ensures.bytes) c.in-Some.ensures

pub returns-in-Err-clause-writes : goal.returns-in-Err-clause-writes
returns-in-Err-clause-writes c = (
  maps_seen c.args.pages.now (flat c.args.entries.now) c.args.pages.now (memory_of c.args.pages.now (flat c.args.entries.now)) c.requires.pages.sound refl refl
      c.args.at (length c.args.source.now) (Some c.in-Some.start) c.in-Some.ensures,
  ap (memory_of c.args.pages.now) c.take_memory.ensures.bytes,
)

pub returns-in-Err-clause-wants : goal.returns-in-Err-clause-wants
returns-in-Err-clause-wants c _ =
    let (k, from, to, absent) = c.in-Err.ensures.err in
    touches_unheld c.args.pages.now c.args.entries.now c.requires.pages c.args.at (length c.args.source.now) c.in-Some.start k
    (positive (length c.args.source.now) (sym c.is_empty.ensures ∙ c.if-is_empty.false)) c.in-Some.ensures from
    (let some = positive (length c.args.source.now) (sym c.is_empty.ensures ∙ c.if-is_empty.false) in omega (arith, some, to)) absent
