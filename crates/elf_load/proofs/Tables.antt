-- The header table, taken one program header at a time.
use Rattle.std.proofs.Common.{◌≡◌, ◌≢◌, ◌≤◌, ◌<◌, ℕ, zero, suc, ◌+◌, ◌*◌, ◌-◌, ◌==◌, Bool, true, false, List, [], ◌∷◌, ◌++◌, refl, sym, ◌∙◌, arith, append_assoc}
use Rattle.std.specs.Prelude.{map}
use Rattle.std.specs.List.{filter, list_any}
use Rattle.std.proofs.lemmas.Bool.Decides.{nat_tests}
use Rattle.elf_load.specs.declared.Segment.{Segment}
use Rattle.elf_load.specs.Fields.{e_phoff, e_phnum, headers, offsets_from, p_type}
use Rattle.elf_load.specs.Segments.{is_interpreter, is_load, loads_among, segment_at}

-- the offsets of the program headers from that index on
unfoldable pub headers_from : List ℕ → ℕ → List ℕ
headers_from file index = offsets_from (e_phoff file + 56 * index) (e_phnum file - index)

pub headers_from-start : (file : List ℕ) → headers_from file 0 ≡ headers file
unfolding headers_from
headers_from-start file =
    let first : e_phoff file + 56 * 0 ≡ e_phoff file = omega arith in
    let count : e_phnum file - 0 ≡ e_phnum file = omega arith in
    rw (first, count) refl

offsets_from-on : (first count : ℕ) → 0 < count → offsets_from first count ≡ first ∷ offsets_from (first + 56) (count - 1)
unfolding offsets_from
offsets_from-on first zero h = absurd (omega arith)
offsets_from-on first (suc count) h =
    let less : suc count - 1 ≡ count = omega arith in
    rw less refl

pub headers_from-on : (file : List ℕ) (index : ℕ) → index < e_phnum file
    → headers_from file index ≡ (e_phoff file + 56 * index) ∷ headers_from file (index + 1)
unfolding headers_from
headers_from-on file index h =
    let next : e_phoff file + 56 * index + 56 ≡ e_phoff file + 56 * (index + 1) = omega arith in
    let left : e_phnum file - index - 1 ≡ e_phnum file - (index + 1) = omega arith in
    let some : 0 < e_phnum file - index = omega arith in
    offsets_from-on (e_phoff file + 56 * index) (e_phnum file - index) some ∙ rw (next, left) refl

pub headers_from-end : (file : List ℕ) (index : ℕ) → e_phnum file ≤ index → headers_from file index ≡ []
unfolding headers_from offsets_from
headers_from-end file index h =
    let none : e_phnum file - index ≡ 0 = omega arith in
    rw none refl

-- an interpreter is asked for by the header at the index, or not
pub interpreter_here : (file : List ℕ) (index : ℕ) → index < e_phnum file → p_type file (e_phoff file + 56 * index) ≡ 3
    → list_any (is_interpreter file) (headers_from file index) ≡ true
interpreter_here file index listed is = rw (headers_from-on file index listed, is) refl

pub interpreter_later : (file : List ℕ) (index : ℕ) → index < e_phnum file → p_type file (e_phoff file + 56 * index) ≢ 3
    → list_any (is_interpreter file) (headers_from file index) ≡ list_any (is_interpreter file) (headers_from file (index + 1))
interpreter_later file index listed is =
    let no : (p_type file (e_phoff file + 56 * index) == 3) ≡ false = grind (arith, nat_tests) in
    rw (headers_from-on file index listed, no) refl

-- what one header gives
pub loads-one : (file : List ℕ) (header : ℕ) → is_load file header ≡ true
    → loads_among file (header ∷ []) ≡ segment_at file header ∷ []
unfolding loads_among
loads-one file header is = rw is refl

pub loads-other : (file : List ℕ) (header : ℕ) → is_load file header ≡ false → loads_among file (header ∷ []) ≡ []
unfolding loads_among
loads-other file header is = rw is refl

loads-cons : (file : List ℕ) (header : ℕ) (rest : List ℕ)
    → loads_among file (header ∷ rest) ≡ loads_among file (header ∷ []) ++ loads_among file rest
unfolding loads_among
loads-cons file header rest =
    let cases : (b : Bool) → is_load file header ≡ b
    → map (segment_at file) (filter (is_load file) (header ∷ rest))
    ≡ map (segment_at file) (filter (is_load file) (header ∷ [])) ++ map (segment_at file) (filter (is_load file) rest) =
    λ b. elim b as (λ v. is_load file header ≡ v
    → map (segment_at file) (filter (is_load file) (header ∷ rest))
    ≡ map (segment_at file) (filter (is_load file) (header ∷ [])) ++ map (segment_at file) (filter (is_load file) rest)) [
      | true ↦ (λ is. rw is refl)
      | false ↦ (λ is. rw is refl)
    ] in
    cases (is_load file header) refl

-- a table's segments, where those before the index are `taken`
pub loads-on : (file : List ℕ) (index : ℕ) (taken : List Segment) → index < e_phnum file
    → taken ++ loads_among file (headers_from file index)
    ≡ (taken ++ loads_among file ((e_phoff file + 56 * index) ∷ [])) ++ loads_among file (headers_from file (index + 1))
loads-on file index taken listed =
    rw (headers_from-on file index listed, loads-cons file (e_phoff file + 56 * index) (headers_from file (index + 1)))
    (sym (append_assoc taken (loads_among file ((e_phoff file + 56 * index) ∷ [])) (loads_among file (headers_from file (index + 1)))))

pub loads-end : (file : List ℕ) (index : ℕ) → e_phnum file ≤ index → loads_among file (headers_from file index) ≡ []
unfolding loads_among
loads-end file index over = rw (headers_from-end file index over) refl

-- the lemmas for `grind`
pub ruleset ends_of_headers = (headers_from-start, headers_from-end)

pub ruleset steps_of_loads = (headers_from-start, loads-on, loads-end)

pub ruleset kinds_of_loads = (loads-one, loads-other)
