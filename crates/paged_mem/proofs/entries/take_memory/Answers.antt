use Rattle.std.proofs.Common.{◌≡◌, ◌≢◌, ℕ, ◌+◌, ◌<◌, ◌≤◌, ◌⊎◌, inl, inr, IsSome, is_some, None, length, get_or, arith, ap, ◌∙◌, length-set, get_or-set_same, get_or-set_other}
use Rattle.paged_mem.proofs.Flats.{AreFull-set, flat-set_same, held_pages-set, held_pages-set_kept}
use Rattle.std.proofs.Math.ListN.{set}
use Rattle.std.proofs.lemmas.Bool.{cases_eq}
use Rattle.std.proofs.lemmas.List.{get_or_default}
use Rattle.paged_mem.specs.Inside.Entries.{page_content}
use Rattle.paged_mem.proofs.entries.take_memory.Goals as goal

pub loop-index-preserved : goal.loop-index-preserved
loop-index-preserved c =
    let inv = c.loop-index.invariant in
    let entries = c.loop-index.entries in
    let i = c.loop-index.index in
    let entry = c.hold.new.entry in
    let within : i < length entries = omega (arith, inv.0, c.requires.within, c.loop-index-test.true) in
    let kept : IsSome (get_or entries i None) → IsSome entry = λ some. c.hold.ensures.kept (ap is_some (get_or_default entries i c.index-entries-index.result None within) ∙ some) in (
      length-set entries i entry ∙ inv.0,
      AreFull-set entries i entry inv.1 c.hold.ensures.full,
      flat-set_same entries i entry (c.hold.ensures.bytes ∙ ap page_content (get_or_default entries i c.index-entries-index.result None within)) ∙ inv.2,
      λ pages. omega (arith, held_pages-set pages entries i entry, inv.3 pages, c.loop-index.auto.index),
      λ k from below. taken k from below (cases_eq k i),
      λ k from. get_or-set_other entries i k entry None (omega arith) ∙ inv.5 k (omega arith),
      λ pages. omega (arith, held_pages-set_kept pages entries i entry kept, inv.6 pages),
    )
  where
    taken : (k : ℕ) → c.args.first ≤ k → k < c.loop-index.index + 1 → (k ≡ c.loop-index.index) ⊎ (k ≢ c.loop-index.index)
        → IsSome (get_or (set c.loop-index.entries c.loop-index.index c.hold.new.entry) k None)
    taken k from below (inl here) =
        ap (λ n. is_some (get_or (set c.loop-index.entries c.loop-index.index c.hold.new.entry) n None)) here
        ∙ ap is_some (get_or-set_same c.loop-index.entries c.loop-index.index c.hold.new.entry None (omega (arith, c.loop-index.invariant.0, c.requires.within, c.loop-index-test.true)))
        ∙ c.in_ok-hold.ensures.ok
    taken k from below (inr other) =
        ap is_some (get_or-set_other c.loop-index.entries c.loop-index.index k c.hold.new.entry None other) ∙ c.loop-index.invariant.4 k from (omega arith)

pub returns-clause-raises : goal.returns-clause-raises
returns-clause-raises c pages = omega (arith, c.loop-index.invariant.3 pages, c.loop-index-test.false, c.requires.order)
