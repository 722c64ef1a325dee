use Rattle.std.proofs.Common.{◌≡◌, ℕ, ◌+◌, ◌<◌, Option, List, [], ◌∷◌, ◌++◌, length, take, get_or, filter_map, sym, ap, ap₂, ◌∙◌, append_assoc}
use Rattle.std.specs.List.{cons_option}
use Rattle.std.proofs.lemmas.List.{take_more}
use Rattle.std.proofs.lemmas.List.Elements.{filter_map-append}
use Rattle.wheeler.specs.Assumptions.{input_assumption, stage_assumption}
use Rattle.wheeler.specs.Inside.Trusting.{trusts}
use Rattle.wheeler.proofs.listing.trust_lines.Goals as goal

-- one more line, or none
line_more : {X Y : Type 0} (f : X → Option Y) (shown xs : List X) (i : ℕ) (x : X) → shown ≡ xs → i < length shown → x ≡ get_or shown i x
    → filter_map f (take i xs) ++ cons_option (f x) [] ≡ filter_map f (take (i + 1) xs)
line_more f shown xs i x same less is =
    ap (λ l. filter_map f (take i l) ++ cons_option (f x) []) (sym same)
    ∙ ap (λ y. filter_map f (take i shown) ++ cons_option (f y) []) is
    ∙ sym (ap (filter_map f) (take_more shown i x less) ∙ filter_map-append f (take i shown) (get_or shown i x ∷ []))
    ∙ ap (λ l. filter_map f (take (i + 1) l)) same

pub loop-input-preserved : goal.loop-input-preserved
loop-input-preserved c =
    let recipe = c.args.recipe.now in
    c.in_ok-push_line.ensures
    ∙ ap₂ (λ l o. l ++ cons_option o []) c.loop-input.invariant c.input_line.ensures
    ∙ line_more (input_assumption (trusts recipe c.args.trusted.now) recipe) c.as_slice-input-items.result.now recipe.inputs c.loop-input.input-index c.input-item.result
    (c.as_slice-input-items.ensures ∙ c.inputs.ensures.value) c.loop-input-test.true c.input-item.is

pub loop-stage-preserved : goal.loop-stage-preserved
loop-stage-preserved c =
    let recipe = c.args.recipe.now in
    let line = stage_assumption (trusts recipe c.args.trusted.now) recipe in
    let prefix = filter_map (input_assumption (trusts recipe c.args.trusted.now) recipe) recipe.inputs in
    c.in_ok-push_line-2.ensures
    ∙ ap₂ (λ l o. l ++ cons_option o []) c.loop-stage.invariant c.stage_line.ensures
    ∙ append_assoc prefix (filter_map line (take c.loop-stage.stage-index recipe.stages)) (cons_option (line c.stage-item.result) [])
    ∙ ap (λ l. prefix ++ l) (line_more line c.as_slice-stage-items.result.now recipe.stages c.loop-stage.stage-index c.stage-item.result
    (c.as_slice-stage-items.ensures ∙ c.stages.ensures.value) c.loop-stage-test.true c.stage-item.is)
