use Rattle.std.proofs.Common.{ap, sym, ◌∙◌, ◌++◌, ◌∷◌, [], List, ℕ}
use Rattle.hex_langs.specs.declared.items.item.Item.{Item}
use Rattle.hex_langs.specs.Items.Representation.Packed.{items_of}
use Rattle.hex_langs.proofs.ItemsLemmas.Packing.{packed-byte, packed-other, pushed-byte, pushed-other}
use Rattle.hex_langs.proofs.items.items.add_item.Goals as goal

pub returns-in_ok-add_byte-in-Byte-clause-packed : goal.returns-in_ok-add_byte-in-Byte-clause-packed
returns-in_ok-add_byte-in-Byte-clause-packed c =
    rw c.in_ok-add_byte-in-Byte.ensures.ok (packed-byte c.args.codes.now.items c.args.others.now.items c.in-Byte.byte c.add_byte.ensures.byte c.requires.capacity c.requires.packed)

pub returns-in_ok-add_byte-in-Byte-clause-ok : goal.returns-in_ok-add_byte-in-Byte-clause-ok
returns-in_ok-add_byte-in-Byte-clause-ok c =
    let codes = c.args.codes.now.items in
    let others = c.args.others.now.items in
    ap (λ (l : List ℕ). items_of l others) c.in_ok-add_byte-in-Byte.ensures.ok
    ∙ pushed-byte codes others c.in-Byte.byte c.add_byte.ensures.byte
    ∙ ap (λ (i : Item). items_of codes others ++ i ∷ []) (sym c.in-Byte.is)

pub returns-in_ok-add_other-in_default : goal.returns-in_ok-add_other-in_default
returns-in_ok-add_other-in_default c =
    let codes = c.args.codes.now.items in
    let others = c.args.others.now.items in
    record {
      packed = rw (c.in_ok-add_other-in_default.ensures.ok_codes, c.in_ok-add_other-in_default.ensures.ok_others) (packed-other codes others c.args.item c.requires.capacity c.requires.packed);
      ok = rw (c.in_ok-add_other-in_default.ensures.ok_codes, c.in_ok-add_other-in_default.ensures.ok_others) (pushed-other codes others c.args.item c.requires.packed);
      err = tt;
    }
