-- The lines of what is left, taken name by name.
use Rattle.std.proofs.Common.{◌≡◌, ℕ, Option, Some, None, List, [], ◌∷◌, ◌++◌, map, filter, find, unwrap_or, append_assoc, refl, sym, ap, ◌∙◌}
use Rattle.std.specs.FinMap as finite
use Rattle.std.proofs.lemmas.List.{append-nil}
use Rattle.mem_files.specs.Calls.{content_at, is_after}
use Rattle.mem_files.specs.Outputs.{left}
use Rattle.mem_files.specs.World.{World}
use Rattle.mem_files.proofs.Walks.{named_at, names-left, names-rise, walk-end, walk-turn}
use Rattle.report.specs.declared.types.LeftLine.{LeftLine}
use Rattle.audit_rules.specs.Stages.{marked_left}

-- the line of what is left under a name
abbrev pub line_at : World → List ℕ → LeftLine
line_at w name = marked_left (name, unwrap_or (content_at w name) [])

pub lines-step : (w : World) (given : Option (List ℕ)) (name : List ℕ) (lines whole : List LeftLine) → find (is_after given) (finite.keys w.names) ≡ Some name
    → lines ++ map (line_at w) (filter (is_after given) (finite.keys w.names)) ≡ whole
    → (lines ++ line_at w name ∷ []) ++ map (line_at w) (filter (is_after (Some name)) (finite.keys w.names)) ≡ whole
lines-step w given name lines whole found before =
    let turn = walk-turn given name (finite.keys w.names) (names-rise w) found in
    append_assoc lines (line_at w name ∷ []) (map (line_at w) (filter (is_after (Some name)) (finite.keys w.names))) ∙ (rw turn at before)

lines-named : (w : World) (names : List (List ℕ)) → map (line_at w) names ≡ map marked_left (map (named_at w) names)
lines-named w [] = refl
lines-named w (name ∷ names) = ap (λ rest. line_at w name ∷ rest) (lines-named w names)

pub lines-whole : (w : World) (given : Option (List ℕ)) (lines : List LeftLine) → find (is_after given) (finite.keys w.names) ≡ None
    → lines ++ map (line_at w) (filter (is_after given) (finite.keys w.names)) ≡ map (line_at w) (finite.keys w.names)
    → lines ≡ map marked_left (left w)
lines-whole w given lines none before =
    let end = walk-end given (finite.keys w.names) none in
    sym (append-nil lines) ∙ (rw end at before) ∙ lines-named w (finite.keys w.names) ∙ ap (map marked_left) (names-left w)
