-- The files that are left beside the lines of a report: a walk by "the first name after".
use Rattle.std.proofs.Common.{◌≡◌, ℕ, ◌+◌, ◌<◌, ◌≤◌, ◌&&◌, Bool, true, false, Bor, Option, Some, None, List, [], ◌∷◌, drop, filter, find, get_or, is_none, is_some, length, map, not, option_copied, unwrap_or, refl, sym, ap, ◌∙◌}
use Rattle.std.specs.FinMap as finite
use Rattle.std.specs.Prelude.{bytes_eq}
use Rattle.std.proofs.lemmas.List.{at_drop_all, at_drop_more}
use Rattle.mem_files.specs.World.{World}
use Rattle.mem_files.specs.Calls.{content_at, is_after}
use Rattle.mem_files.specs.Outputs.{left}
use Rattle.mem_files.proofs.Walks.{named_at, names-left, names-rise, walk-end, walk-start, walk-turn}
use Rattle.report.specs.declared.types.LeftLine.{LeftLine}
use Rattle.report.specs.Marks.{is_mark_of}
use Rattle.verifier.specs.Faults.{names_left}

-- the files whose names come after the given one
abbrev pub left_after : World → Option (List ℕ) → List (List ℕ × List ℕ)
left_after w given = map (named_at w) (filter (is_after given) (finite.keys w.names))

-- before the walk all files are ahead
pub left-start : (w : World) → left w ≡ left_after w None
left-start w = sym (names-left w) ∙ ap (map (named_at w)) (sym (walk-start (finite.keys w.names)))

-- the next name, with its content, is the next file
left-turn : (w : World) (given : Option (List ℕ)) (name : List ℕ) → find (is_after given) (finite.keys w.names) ≡ Some name
    → left_after w given ≡ named_at w name ∷ left_after w (Some name)
left-turn w given name found = ap (map (named_at w)) (walk-turn given name (finite.keys w.names) (names-rise w) found)

-- where there is no next name, no file is ahead
left-end : (w : World) (given : Option (List ℕ)) → find (is_after given) (finite.keys w.names) ≡ None → left_after w given ≡ []
left-end w given none = ap (map (named_at w)) (walk-end given (finite.keys w.names) none)

-- ---- the lines beside the files

-- the next line says the next file, and so on
pub line-turn : (lines : List LeftLine) (index : ℕ) (line : LeftLine) (w : World) (given : Option (List ℕ)) (name : List ℕ) → index < length lines
    → line ≡ get_or lines index line → find (is_after given) (finite.keys w.names) ≡ Some name
    → names_left (drop index lines) (left_after w given)
    ≡ (bytes_eq line.name name && is_mark_of line.mark (unwrap_or (content_at w name) []) && names_left (drop (index + 1) lines) (left_after w (Some name)))
line-turn lines index line w given name less is found =
    at_drop_more (λ l. names_left l (left_after w given)) lines index line less
    ∙ (λ i. names_left (sym is i ∷ drop (index + 1) lines) (left-turn w given name found i))

-- a line without a file
pub line-missing : (lines : List LeftLine) (index : ℕ) (line : LeftLine) (w : World) (given : Option (List ℕ)) → index < length lines
    → find (is_after given) (finite.keys w.names) ≡ None → names_left (drop index lines) (left_after w given) ≡ false
line-missing lines index line w given less none =
    at_drop_more (λ l. names_left l (left_after w given)) lines index line less
    ∙ ap (names_left (get_or lines index line ∷ drop (index + 1) lines)) (left-end w given none)

-- after the last line there is no further file, or one without a line
pub line-end : (lines : List LeftLine) (index : ℕ) (w : World) (given : Option (List ℕ)) → length lines ≤ index
    → names_left (drop index lines) (left_after w given) ≡ is_none (find (is_after given) (finite.keys w.names))
line-end lines index w given past =
    at_drop_all (λ l. names_left l (left_after w given)) lines index past ∙ by_next (find (is_after given) (finite.keys w.names)) refl where
      by_next : (next : Option (List ℕ)) → find (is_after given) (finite.keys w.names) ≡ next → names_left [] (left_after w given) ≡ is_none next
      by_next None none = ap (names_left []) (left-end w given none)
      by_next (Some name) found = ap (names_left []) (left-turn w given name found)

pub not-true : (b : Bool) → true ≡ not b → b ≡ false
not-true true is = absurd cc
not-true false is = refl

pub not-false : (b : Bool) → false ≡ not b → b ≡ true
not-false true is = refl
not-false false is = absurd cc

pub none-told : {X : Type 0} (found : Option (Bor X)) (told : Bool) → is_some found ≡ not told → told ≡ is_none (option_copied found)
none-told None told is = not-false told is
none-told (Some x) told is = not-true told is
