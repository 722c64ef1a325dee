-- The lines of what is left, on a walk over the names by "the first one after".
use Rattle.std.proofs.Common.{◌≡◌, ℕ, Option, Some, None, List, [], ◌∷◌, ◌++◌, codes, decimal, length, filter, find, map, append_assoc, refl, sym, ap, ◌∙◌}
use Rattle.std.specs.FinMap as finite
use Rattle.std.specs.List.{flat_map}
use Rattle.std.proofs.lemmas.List.{append-nil}
use Rattle.hex.specs.Hex.{encode_lower}
use Rattle.sha2.specs.Sha256.{sha256}
use Rattle.mem_files.specs.World.{World}
use Rattle.mem_files.specs.Calls.{is_after}
use Rattle.mem_files.specs.Outputs.{left}
use Rattle.mem_files.proofs.Walks.{named_at, names-left, names-rise, walk-end, walk-turn}
use Rattle.tool_commands.specs.RunProgram.{left_line}

-- the line of what is left under a name, and those of several
abbrev pub name_line : World → List ℕ → List ℕ
name_line w name = left_line (named_at w name)

abbrev pub name_lines : World → List (List ℕ) → List ℕ
name_lines w names = flat_map (name_line w) names

-- the line of a file that is left from its parts
pub left_line_parts : (text name content : List ℕ)
    → ((((((text ++ codes "left ") ++ encode_lower name) ++ 32 ∷ []) ++ decimal (length content)) ++ 32 ∷ []) ++ encode_lower (sha256 content)) ++ 10 ∷ []
    ≡ text ++ left_line (name, content)
unfolding left_line
left_line_parts text name content = simp append_assoc

-- one turn of the walk with its line
pub walk-step : (w : World) (given : Option (List ℕ)) (name text whole : List ℕ) → find (is_after given) (finite.keys w.names) ≡ Some name → text ++ name_lines w (filter (is_after given) (finite.keys w.names)) ≡ whole → (text ++ name_line w name) ++ name_lines w (filter (is_after (Some name)) (finite.keys w.names)) ≡ whole
walk-step w given name text whole found before =
    let turn = walk-turn given name (finite.keys w.names) (names-rise w) found in
    append_assoc text (name_line w name) (name_lines w (filter (is_after (Some name)) (finite.keys w.names))) ∙ (rw turn at before)

-- the text is whole where no name is left
pub walk-whole : (w : World) (given : Option (List ℕ)) (text whole : List ℕ) → find (is_after given) (finite.keys w.names) ≡ None → text ++ name_lines w (filter (is_after given) (finite.keys w.names)) ≡ whole → text ≡ whole
walk-whole w given text whole none before =
    let end = walk-end given (finite.keys w.names) none in
    sym (append-nil text) ∙ (rw end at before)

-- the lines by names are those of the names with their contents
lines-named : (w : World) (names : List (List ℕ)) → flat_map left_line (map (named_at w) names) ≡ name_lines w names
lines-named w [] = refl
lines-named w (name ∷ names) = ap (λ rest. name_line w name ++ rest) (lines-named w names)

pub name_lines-left : (w : World) → name_lines w (finite.keys w.names) ≡ flat_map left_line (left w)
name_lines-left w = sym (lines-named w (finite.keys w.names)) ∙ ap (flat_map left_line) (names-left w)
