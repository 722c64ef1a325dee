-- Names that are placed are names as files hold them, and a file that is refused changes nothing.
use Rattle.std.proofs.Common.{subst, ◌≡◌, ℕ, Bool, true, false, cond, not, ◌+◌, Some, List, [], ◌∷◌, ◌++◌, length, length-append, arith, refl, sym, ap, ◌∙◌, Result, Ok, Err}
use Rattle.std.specs.FinMap as fin
use Rattle.std.specs.Prelude.{IsSome, IsTrue, is_some}
use Rattle.std.specs.Ordering.{eq_by_cmp, is_eq}
use Rattle.std.specs.Cmp.{tied_itself}
use Rattle.std.specs.Cmp.Lexicographic.{nat_list_cmp_total}
use Rattle.std.proofs.lemmas.List.Elements.{All-push, All-weaker}
use Rattle.mem_files.specs.World.{World, lowest_unused}
use Rattle.mem_files.specs.Calls.{is_full, placed, with_file}
use Rattle.mem_files.specs.Names.{bytes_cmp, is_file_name, is_stripped_name, stripped}
use Rattle.mem_files.specs.Replies.{Places}
use Rattle.mem_files.specs.declared.open_file.PlaceRefusal.{PlaceRefusal}
use Rattle.mem_files.specs.declared.open_file.PlaceRefusal.TheVariants.{BadName, Twice, Full, OutOfMemory}
use Rattle.guest_run.proofs.GivenLists.{good_name}
use Rattle.kaem_script.specs.FilesListed.{AreNames, IsList, FilesListed, Pushes}

-- what a placing comes to, by its three tests
abbrev Placed : Type 0
Placed = Result (Unit {0}) PlaceRefusal × World

abbrev tested : World → World → Bool → Bool → Bool → Placed
tested w more bad twice full = cond bad (Err BadName, w) (cond twice (Err Twice, w) (cond full (Err Full, w) (Ok tt, more)))

not-bad : (w more new : World) (bad twice full : Bool) → tested w more bad twice full ≡ (Ok tt, new) → bad ≡ false
not-bad w more new true twice full is = absurd (let gone : ◌≡◌ {A = Result (Unit {0}) PlaceRefusal} (Err BadName) (Ok tt) = ap (λ (p : Placed). p.0) is in cc)
not-bad w more new false twice full is = refl

unchanged : (w more new : World) (bad twice full : Bool) (refusal : PlaceRefusal) → tested w more bad twice full ≡ (Err refusal, new) → new ≡ w
unchanged w more new true twice full refusal is = sym (ap (λ (p : Placed). p.1) is)
unchanged w more new false true full refusal is = sym (ap (λ (p : Placed). p.1) is)
unchanged w more new false false true refusal is = sym (ap (λ (p : Placed). p.1) is)
unchanged w more new false false false refusal is = absurd (let gone : ◌≡◌ {A = Result (Unit {0}) PlaceRefusal} (Ok tt) (Err refusal) = ap (λ (p : Placed). p.0) is in cc)

placed-unchanged : (w new : World) (name content : List ℕ) (refusal : PlaceRefusal) → placed w name content ≡ (Err refusal, new) → new ≡ w
placed-unchanged w new name content refusal is =
    unchanged w (with_file w (stripped name) content) new (not (is_file_name (stripped name))) (fin.contains_key w.names (stripped name))
    (is_full w (length content)) refusal is

not_false : (b : Bool) → not b ≡ false → b ≡ true
not_false true h = refl
not_false false h = absurd cc

names-more : (names : List (List ℕ)) (w new : World) (name content : List ℕ) → AreNames names → placed w name content ≡ (Ok tt, new)
    → AreNames (names ++ stripped name ∷ [])
names-more names w new name content are is =
    let good = not-bad w (with_file w (stripped name) content) new (not (is_file_name (stripped name))) (fin.contains_key w.names (stripped name))
    (is_full w (length content)) is in
    All-push (λ n. IsTrue (is_stripped_name n)) names (stripped name) are (good_name name (not_false (is_file_name (stripped name)) good))

-- a list with one file more
accepted : (w more new : World) (bad twice full : Bool) → tested w more bad twice full ≡ (Ok tt, new) → (twice ≡ false) × (more ≡ new)
accepted w more new true twice full is = absurd (let gone : ◌≡◌ {A = Result (Unit {0}) PlaceRefusal} (Err BadName) (Ok tt) = ap (λ (p : Placed). p.0) is in cc)
accepted w more new false true full is = absurd (let gone : ◌≡◌ {A = Result (Unit {0}) PlaceRefusal} (Err Twice) (Ok tt) = ap (λ (p : Placed). p.0) is in cc)
accepted w more new false false true is = absurd (let gone : ◌≡◌ {A = Result (Unit {0}) PlaceRefusal} (Err Full) (Ok tt) = ap (λ (p : Placed). p.0) is in cc)
accepted w more new false false false is = (refl, ap (λ (p : Placed). p.1) is)

some-inserted : (m : fin.FinMap bytes_cmp ℕ) (name other : List ℕ) (number : ℕ) → IsSome (fin.get m other) → IsSome (fin.get (fin.insert m name number) other)
some-inserted m name other number there =
    ap is_some (fin.get-insert nat_list_cmp_total m name number other) ∙ at (eq_by_cmp bytes_cmp other name)
  where
    at : (b : Bool) → is_some (cond b (Some number) (fin.get m other)) ≡ true
    at true = refl
    at false = there

some-new : (m : fin.FinMap bytes_cmp ℕ) (name : List ℕ) (number : ℕ) → IsSome (fin.get (fin.insert m name number) name)
some-new m name number =
    ap is_some (fin.get-insert nat_list_cmp_total m name number name ∙ ap (λ o. cond (is_eq o) (Some number) (fin.get m name)) (tied_itself nat_list_cmp_total name))

pub list-more : (names : List (List ℕ)) (w new : World) (name content : List ℕ) → IsList (record { names = names; world = w })
    → placed w name content ≡ (Ok tt, new) → IsList (record { names = names ++ stripped name ∷ []; world = new })
list-more names w new name content is placing =
    let made = with_file w (stripped name) content in
    let parts = accepted w made new (not (is_file_name (stripped name))) (fin.contains_key w.names (stripped name)) (is_full w (length content)) placing in
    let number = lowest_unused w.files in
    let longer : fin.len made.names ≡ fin.len w.names + 1 =
    fin.len-insert nat_list_cmp_total w.names (stripped name) number ∙ ap (λ b. cond b (fin.len w.names) (fin.len w.names + 1)) parts.0 in
    let few = is.few in
    let list : IsList (record { names = names ++ stripped name ∷ []; world = made }) = record {
      named = names-more names w new name content is.named placing;
      there = All-push (λ n. IsSome (fin.get made.names n)) names (stripped name)
          (All-weaker (λ n. IsSome (fin.get w.names n)) (λ n. IsSome (fin.get made.names n)) (λ n there. some-inserted w.names (stripped name) n number there) names is.there)
          (some-new w.names (stripped name) number);
      few = omega (arith, longer, few, length-append names (stripped name ∷ []));
    } in
    subst (λ (x : World). IsList (record { names = names ++ stripped name ∷ []; world = x })) parts.1 list

-- a list whose file is refused
refused-for : (names : List (List ℕ)) (w new : World) (name content : List ℕ) (refusal : PlaceRefusal) → placed w name content ≡ (Err refusal, new)
    → (placed w name content ≡ (Err refusal, w)) × (◌≡◌ {A = FilesListed} (record { names = names; world = new }) (record { names = names; world = w }))
refused-for names w new name content refusal is =
    let same = placed-unchanged w new name content refusal is in
    (is ∙ ap (λ (x : World). (Err refusal, x)) same, ap (λ (x : World). record { names = names; world = x }) same)

pub refused : (names : List (List ℕ)) (w new : World) (name content : List ℕ) (refusal : PlaceRefusal) → Places (Err refusal) w new (placed w name content)
    → Pushes (record { names = names; world = w }) name content (Err refusal) (record { names = names; world = new })
refused names w new name content BadName is = refused-for names w new name content BadName is
refused names w new name content Twice is = refused-for names w new name content Twice is
refused names w new name content Full is = refused-for names w new name content Full is
refused names w new name content OutOfMemory is = ap (λ (x : World). record { names = names; world = x }) is.1

pub kept-world : (w new : World) (name content : List ℕ) (refusal : PlaceRefusal) → Places (Err refusal) w new (placed w name content) → new ≡ w
kept-world w new name content BadName is = placed-unchanged w new name content BadName is
kept-world w new name content Twice is = placed-unchanged w new name content Twice is
kept-world w new name content Full is = placed-unchanged w new name content Full is
kept-world w new name content OutOfMemory is = is.1
