use Rattle.std.proofs.Common.{arith, sym, ap, subst, ◌∙◌, ◌+◌, ◌∷◌, drop, ℕ, length, Ok}
use Rattle.std.proofs.lemmas.List.{at_drop_more}
use Rattle.hex_langs.specs.Link.Link.{item_bytes, bytes_from, onto}
use Rattle.hex_langs.specs.Link.Representation.Tables.{address_in, Puts}
use Rattle.hex_langs.proofs.LinkLemmas.Joins.{joined-more}
use Rattle.hex_langs.proofs.link.joining.joined.Goals as goal

pub loop-index-preserved : goal.loop-index-preserved
loop-index-preserved c =
    let labels = address_in c.args.table.now in
    let address = c.args.base + length c.loop-index.out in
    let remaining = drop (c.loop-index.index + 1) c.args.items.now in
    let turn = at_drop_more (bytes_from labels address c.loop-index.index) c.args.items.now c.loop-index.index c.item_at-item.result (omega arith)
    ∙ ap (λ it. bytes_from labels address c.loop-index.index (it ∷ remaining)) (sym c.item_at-item.ensures) in
    let puts = subst (λ (n : ℕ). Puts (Ok tt) (item_bytes labels (c.args.base + n) c.item_at-item.result) c.loop-index.out c.put.new.out) c.len.ensures c.in-Ok.ensures in
    let more = joined-more labels c.args.base c.loop-index.index c.item_at-item.result remaining c.loop-index.out c.put.new.out _
    (c.loop-index.invariant.whole ∙ ap (onto c.loop-index.out) turn) puts in
    record { whole = more.0; small = omega (arith, more.1) }
