use Rattle.std.proofs.Common.{arith, sym, ap, subst, ◌∙◌, ◌≡◌, ◌+◌, List, ◌∷◌, drop, ℕ, Bool, Ok}
use Rattle.std.proofs.lemmas.List.{at_drop_more, drop_all}
use Rattle.ddc_base.specs.declared.byte_list.OutOfMemory.{OutOfMemory}
use Rattle.ddc_base.specs.declared.name_tables.NamesKey.{NamesKey}
use Rattle.hex_langs.specs.declared.items.item.Item.{Item}
use Rattle.hex_langs.specs.Link.Representation.Tables.{Adds}
use Rattle.hex_langs.proofs.LinkLemmas.Labellings.{IsTableOf, more, of-empty, tabled}
use Rattle.hex_langs.proofs.link.labels.labels_of.Goals as goal

pub loop-index-init : goal.loop-index-init
loop-index-init c = record { table = of-empty c.args.items.now c.args.base c.in_ok-table.table c.in_ok-table.ensures.empty; keyed = c.in_ok-table.ensures.keyed; near = omega arith }

pub loop-index-preserved : goal.loop-index-preserved
loop-index-preserved c =
    let items = c.args.items.now in
    let base = c.args.base in
    let index = c.loop-index.index in
    let address = c.loop-index.address in
    let it = c.item_at-item.result in
    let remaining = drop (index + 1) items in
    let next : drop index items ≡ it ∷ remaining = at_drop_more (λ (l : List Item). l) items index it (omega arith) ∙ ap (λ (i : Item). i ∷ remaining) (sym c.item_at-item.ensures) in
    let adds = subst (λ (b : Bool). Adds {E = OutOfMemory} (Ok b) it address c.loop-index.table c.add_label.new.table) c.if-branch.false c.in_ok-add_label.ensures.adds in
    let now = more OutOfMemory it items remaining base c.loop-index.table c.add_label.new.table index address
    (subst (IsTableOf items base c.loop-index.table index address) next c.loop-index.invariant.table) adds in
    record {
      table = subst (λ (n : ℕ). IsTableOf items base c.add_label.new.table (index + 1) (address + n) remaining) (sym c.size_at-address.ensures.value) now;
      keyed = ap (λ (key : NamesKey). key.begun) c.in_ok-add_label.ensures.kept ∙ c.loop-index.invariant.keyed;
      near = omega arith;
    }

pub returns-clause-tables : goal.returns-clause-tables
returns-clause-tables c =
    let items = c.args.items.now in
    let none = drop_all c.loop-index.index items (omega arith) in
    tabled items c.args.base c.loop-index.table c.loop-index.index c.loop-index.address c.requires.base (omega arith)
    (subst (IsTableOf items c.args.base c.loop-index.table c.loop-index.index c.loop-index.address) none c.loop-index.invariant.table)
