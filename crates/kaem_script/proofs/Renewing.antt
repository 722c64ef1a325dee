-- Files of names in turn, placed where none are.
use Rattle.std.proofs.Common.{◌≡◌, ℕ, Option, None, Some, List, [], ◌∷◌, ◌++◌, length, map, filter, unwrap_or, sum_by, append_assoc, refl, sym, ap, ◌∙◌, subst, Ok, All}
use Rattle.std.specs.List.{fold}
use Rattle.std.specs.FinMap as fin
use Rattle.std.proofs.lemmas.List.{append-nil}
use Rattle.std.proofs.lemmas.List.Elements.{All-weaker}
use Rattle.mem_files.specs.World.{World}
use Rattle.mem_files.specs.Calls.{content_at, first_world, is_after, name_after, placed, with_file}
use Rattle.mem_files.specs.Outputs.{IsLeftFile, left}
use Rattle.mem_files.specs.Sound.{IsSound}
use Rattle.mem_files.proofs.Leftovers.{left-are, left-small}
use Rattle.mem_files.proofs.Walks.{names-left, names-rise, walk-end, walk-start, walk-turn}
use Rattle.guest_run.specs.Setting.{IsBoxFile}
use Rattle.guest_run.specs.Start.{with_given}
use Rattle.guest_run.proofs.GivenLists.{CanPlace, can_start, place_next, placed_next}
use Rattle.report.specs.declared.types.LeftLine.{LeftLine}
use Rattle.kaem_script.specs.Inside.Commands.{renewed}
use Rattle.kaem_script.specs.FilesListed.{named_in}
use Rattle.kaem_script.specs.Reported.{marked}

-- the names that come after the one given last
abbrev pub names_after : World → Option (List ℕ) → List (List ℕ)
names_after w last = filter (is_after last) (fin.keys w.names)

-- the files of these names
abbrev pub files_after : World → Option (List ℕ) → List (List ℕ × List ℕ)
files_after w last = map (named_in w) (names_after w last)

-- what was placed so far, and what comes, make up all files; no rule refuses what comes
pub record Placing (w : World) (last : Option (List ℕ)) (files : World) : Type 0 where
  pub whole : fold with_given files (files_after w last) ≡ renewed w
  pub can : CanPlace files (files_after w last)

-- what is left can be placed where no file is
box-file : (file : List ℕ × List ℕ) → IsLeftFile file → IsBoxFile file
box-file file is = record { named = is.named; name_bytes = is.name_bytes; small = is.content.small; content_bytes = is.content.bytes }

pub left-files : (w : World) → IsSound w → All IsBoxFile (left w)
left-files w sound = All-weaker IsLeftFile IsBoxFile box-file (left w) (left-are w sound).each

pub placing-begins : (w files : World) → IsSound w → files ≡ first_world → Placing w None files
unfolding renewed
placing-begins w files sound empty =
    let all : files_after w None ≡ left w = ap (map (named_in w)) (walk-start (fin.keys w.names)) ∙ names-left w in
    let are = left-are w sound in
    let can = can_start (left w) (sum_by (λ file. length file.1) (left w)) are.ascending (left-files w sound) are.few refl (left-small w sound) in
    record {
      whole = ap (λ f. fold with_given f (files_after w None)) empty ∙ ap (fold with_given first_world) all;
      can = subst (λ f. CanPlace f (files_after w None)) (sym empty) (subst (CanPlace first_world) (sym all) can);
    }

turned : (w : World) (last : Option (List ℕ)) (name content : List ℕ) → name_after w last ≡ Some name → content ≡ unwrap_or (content_at w name) []
    → files_after w last ≡ (name, content) ∷ files_after w (Some name)
turned w last name content found is =
    ap (map (named_in w)) (walk-turn last name (fin.keys w.names) (names-rise w) found)
    ∙ ap (λ (c : List ℕ). (name, c) ∷ files_after w (Some name)) (sym is)

-- the next file is placed
pub placing-fits : (w : World) (last : Option (List ℕ)) (files : World) (name content : List ℕ) → Placing w last files → name_after w last ≡ Some name
    → content ≡ unwrap_or (content_at w name) [] → placed files name content ≡ (Ok tt, with_file files name content)
placing-fits w last files name content placing found is =
    place_next files (name, content) (files_after w (Some name)) (subst (CanPlace files) (turned w last name content found is) placing.can)

pub placing-goes-on : (w : World) (last : Option (List ℕ)) (files new : World) (name content : List ℕ) → Placing w last files → name_after w last ≡ Some name
    → content ≡ unwrap_or (content_at w name) [] → new ≡ with_file files name content → Placing w (Some name) new
placing-goes-on w last files new name content placing found is put =
    let turn = turned w last name content found is in
    let can = placed_next files (name, content) (files_after w (Some name)) (subst (CanPlace files) turn placing.can) in
    record {
      whole = ap (λ f. fold with_given f (files_after w (Some name))) put ∙ sym (ap (fold with_given files) turn) ∙ placing.whole;
      can = subst (λ f. CanPlace f (files_after w (Some name))) (sym put) can;
    }

pub placing-ends : (w : World) (last : Option (List ℕ)) (files : World) → Placing w last files → name_after w last ≡ None → files ≡ renewed w
placing-ends w last files placing none =
    sym (ap (λ names. fold with_given files (map (named_in w) names)) (walk-end last (fin.keys w.names) none)) ∙ placing.whole

-- ---- the lines of what is left, taken name by name

abbrev pub line_at : World → List ℕ → LeftLine
line_at w name = marked (named_in w name)

pub lines-step : (w : World) (last : Option (List ℕ)) (name : List ℕ) (lines whole : List LeftLine) → name_after w last ≡ Some name
    → lines ++ map (line_at w) (names_after w last) ≡ whole → (lines ++ line_at w name ∷ []) ++ map (line_at w) (names_after w (Some name)) ≡ whole
lines-step w last name lines whole found before =
    let turn = walk-turn last name (fin.keys w.names) (names-rise w) found in
    append_assoc lines (line_at w name ∷ []) (map (line_at w) (names_after w (Some name))) ∙ (rw turn at before)

pub lines-named : (w : World) (names : List (List ℕ)) → map (line_at w) names ≡ map marked (map (named_in w) names)
lines-named w [] = refl
lines-named w (name ∷ names) = ap (λ rest. line_at w name ∷ rest) (lines-named w names)

pub lines-whole : (w : World) (last : Option (List ℕ)) (lines : List LeftLine) → name_after w last ≡ None
    → lines ++ map (line_at w) (names_after w last) ≡ map (line_at w) (fin.keys w.names) → lines ≡ map marked (left w)
lines-whole w last lines none before =
    let end = walk-end last (fin.keys w.names) none in
    sym (append-nil lines) ∙ (rw end at before) ∙ lines-named w (fin.keys w.names) ∙ ap (map marked) (names-left w)
