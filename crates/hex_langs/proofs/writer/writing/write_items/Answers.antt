use Rattle.std.proofs.Common.{◌≡◌, ◌∙◌, ◌++◌, ◌+◌, ◌<◌, [], ℕ, List, ap, arith, get_or, length, sym, take}
use Rattle.std.proofs.lemmas.List.{flat_map_more, take_more}
use Rattle.hex_langs.specs.declared.items.item.Item.{Item}
use Rattle.hex_langs.specs.declared.items.item.Item.TheVariants.{Pad}
use Rattle.hex_langs.specs.Writer.Writing.{item_line, items_text}
use Rattle.hex_langs.proofs.writer.writing.write_items.Goals as goal

one-more : (items : List Item) (index : ℕ) → index < length items → items_text (take index items) ++ item_line (get_or items index Pad) ≡ items_text (take (index + 1) items)
unfolding items_text
one-more items index within = flat_map_more item_line [] (take index items) (get_or items index Pad) ∙ ap items_text (sym (take_more items index Pad within))

pub loop-index-init : goal.loop-index-init
unfolding items_text
loop-index-init c = c.new-text.ensures

pub loop-index-preserved : goal.loop-index-preserved
loop-index-preserved c =
    let index = c.loop-index.index in
    c.in_ok-put_item.ensures ∙ ap (λ (text : List ℕ). text ++ item_line (get_or c.args.items.now index Pad)) c.loop-index.invariant
    ∙ one-more c.args.items.now index (omega arith)
