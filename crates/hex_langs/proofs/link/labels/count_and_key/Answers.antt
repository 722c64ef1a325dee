use Rattle.std.proofs.Common.{◌++◌, ◌+◌, ◌∷◌, [], ◌∙◌, ap, append-nil, List, ℕ, subst, sym, take}
use Rattle.hex_langs.specs.declared.name_keys.KeyNames.{KeyNames}
use Rattle.hex_langs.specs.Items.Labels.{label_in, label_names}
use Rattle.hex_langs.specs.NameKeys.{Took}
use Rattle.hex_langs.proofs.ItemsLemmas.Packing.{labels-more, no-label}
use Rattle.hex_langs.proofs.link.labels.count_and_key.Goals as goal
use Rattle.hex_langs.proofs.link.labels.count_and_key.Goals.{in-Label, in_default}

pub loop-item-preserved : goal.loop-item-preserved
loop-item-preserved c =
    let items = c.args.items.now in
    let index = c.loop-item.item-index in
    let names = label_names (take index items) in
    let more = labels-more items index c.item-item.result c.loop-item-test.true c.item-item.is in
    elim c.match-item.branch [
      | in-Label w ↦
          let own = ap label_in w.in-Label.is ∙ ap (λ (name : List ℕ). name ∷ []) (sym w.bytes.ensures) in
          subst (λ (n : KeyNames). Took n (label_names (take (index + 1) items))) (sym w.names-is)
          (subst (Took w.add.new.self) (sym (more ∙ ap (λ (l : List (List ℕ)). names ++ l) own)) (w.add.ensures names c.loop-item.invariant))
      | in_default w ↦
          let own = no-label c.item-item.result w.in_default.not-Label in
          subst (λ (n : KeyNames). Took n (label_names (take (index + 1) items))) (sym w.names-is)
          (subst (Took c.loop-item.names) (sym (more ∙ ap (λ (l : List (List ℕ)). names ++ l) own ∙ append-nil names)) c.loop-item.invariant)
    ]
