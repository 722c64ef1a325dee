-- What is written is read again.
use Rattle.std.proofs.Common.{◌≡◌, sym, ℕ, ◌≤◌, List, [], ◌∷◌, length, refl, ap, ◌∙◌, None, Ok}
use Rattle.ddc_base.specs.Limits.{most_items, most_source}
use Rattle.hex_langs.specs.declared.items.item.Item.{Item}
use Rattle.hex_langs.specs.declared.items.token.Dialect.TheVariants.{Hex2}
use Rattle.hex_langs.specs.Items.Reading.{formed, items_of, reading, Whole, with_prefix}
use Rattle.hex_langs.proofs.ItemsLemmas.Readings.{items_of-judged, judged-end}
use Rattle.std.proofs.lemmas.List.{append-nil}
use Rattle.hex_langs.specs.Writer.Writable.{AreWritable}
use Rattle.hex_langs.specs.Writer.Writing.{items_text}
use Rattle.hex_langs.proofs.WriterLemmas.Lines.{line-reads}

text-reads : (items : List Item) → AreWritable items → (at : ℕ) → formed None (reading Hex2 at 0 (items_text items)) ≡ record { items = items; end = Whole }
unfolding items_text reading
text-reads [] fits at = refl
text-reads (it ∷ items) fits at =
    let one = line-reads it fits.0 at (items_text items) in
    one.1 ∙ ap (with_prefix (it ∷ [])) (text-reads items fits.1 one.0)

pub items_of-written : (items : List Item) → AreWritable items → length items ≤ most_items → length (items_text items) ≤ most_source
    → items_of Hex2 (items_text items) ≡ Ok items
items_of-written items fits few short =
    let whole = text-reads items fits 0 ∙ ap (λ (all : List Item). record { items = all; end = Whole }) (sym (append-nil items)) in
    items_of-judged Hex2 (items_text items) short ∙ judged-end (formed None (reading Hex2 0 0 (items_text items))) items Whole whole few
