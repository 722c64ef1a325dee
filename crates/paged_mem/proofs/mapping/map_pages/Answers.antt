use Rattle.std.proofs.Common.{◌≡◌, ◌+◌, ◌*◌, ◌≤◌, ◌++◌, length, take, drop, replicate, ℕ, sym, ap, subst, ◌∙◌, arith}
use Rattle.std.proofs.lemmas.List.{length-replicate}
use Rattle.paged_mem.specs.Inside.Flat.{memory_of, AreFlatPages}
use Rattle.paged_mem.proofs.InsertedRanges.{gap_closed}
use Rattle.paged_mem.proofs.Moves.{sound_after_map, memory_after_map}
use Rattle.paged_mem.proofs.mapping.map_pages.Goals as goal

-- the gap among the bytes is closed again
bytes_back : (c : goal.After-close_gap) → c.close_gap.new.list.items ≡ c.args.bytes.now.items
bytes_back c =
    let at = 4096 * c.rank-at.result in
    let count = 4096 * c.args.count in
    let within : at ≤ length c.args.bytes.now.items = omega (arith, c.rank-at.ensures.within, ap length c.deref.ensures.value, c.requires.sound.full) in
    c.close_gap.ensures
    ∙ ap (λ xs. take at xs ++ drop (at + count) xs) c.in_ok-open_gap.ensures.ok
    ∙ gap_closed c.args.bytes.now.items (replicate count 0) at count within (length-replicate {A = ℕ} count 0)

pub returns-in-Err-clause-sound : goal.returns-in-Err-clause-sound
returns-in-Err-clause-sound c =
    subst (λ pages. AreFlatPages pages c.close_gap.new.list.items) (sym c.in-Err.ensures.err)
    (subst (λ bytes. AreFlatPages c.args.pages.now.items bytes) (sym (bytes_back c)) c.requires.sound)

pub returns-in-Err-clause-err : goal.returns-in-Err-clause-err
returns-in-Err-clause-err c =
    ap (λ pages. memory_of pages c.close_gap.new.list.items) c.in-Err.ensures.err ∙ ap (memory_of c.args.pages.now.items) (bytes_back c)

pub returns-in-Ok-clause-sound : goal.returns-in-Ok-clause-sound
returns-in-Ok-clause-sound c =
    sound_after_map c.args.pages.now.items c.args.bytes.now.items c.deref.result.now c.requires.sound c.args.first c.args.count c.rank-at.result
    c.requires.aligned c.deref.ensures.value c.rank-at.ensures c.requires.low c.requires.free _ _ c.in-Ok.ensures.ok c.in_ok-open_gap.ensures.ok

pub returns-in-Ok-clause-ok : goal.returns-in-Ok-clause-ok
returns-in-Ok-clause-ok c =
    memory_after_map c.args.pages.now.items c.args.bytes.now.items c.deref.result.now c.requires.sound c.args.first c.args.count c.rank-at.result
    c.requires.aligned c.deref.ensures.value c.rank-at.ensures c.requires.low c.requires.free _ _ c.in-Ok.ensures.ok c.in_ok-open_gap.ensures.ok
