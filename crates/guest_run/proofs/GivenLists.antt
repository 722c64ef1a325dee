-- Files that are given, as a sorted list: one more of them, and how they are placed in turn.
use Rattle.std.proofs.Common.{◌≡◌, ℕ, zero, suc, ◌+◌, ◌<◌, ◌≤◌, Bool, true, false, cond, not, ◌&&◌, ◌||◌, T, Option, None, Some, is_some, List, [], ◌∷◌, length, map, get_or, refl, sym, ap, ◌∙◌, subst, arith, Ok, Err}
use Rattle.std.specs.Prelude.{All, IsTrue, sum_by, nat_lt, nat_le}
use Rattle.std.specs.List.{fold}
use Rattle.std.specs.Ordering.{is_eq, is_lt, nat_cmp}
use Rattle.std.specs.declared.cmp.Ordering.{Ordering}
use Rattle.std.specs.declared.cmp.Ordering.TheVariants.{Less, Equal, Greater}
use Rattle.std.specs.Cmp.{eq_by_cmp_equiv}
use Rattle.std.specs.Cmp.Lexicographic.{nat_list_cmp_total}
use Rattle.std.specs.FinMap as fin
use Rattle.std.specs.FinMap.Entries.{below_all, by_order, is_sorted-put}
use Rattle.std.proofs.lemmas.Bool.Decides.{nat_tests}
use Rattle.std.proofs.lemmas.List.Elements.{All-head, All-tail, All-weaker}
use Rattle.std.proofs.lemmas.List.Sums.{sum_by-cons}
use Rattle.mem_files.specs.Names.{begins_with_dot_slash, bytes_cmp, is_file_name, is_stripped_name, stripped}
use Rattle.mem_files.specs.World.{World, content_of, lowest_unused, total}
use Rattle.mem_files.specs.Calls.{first_world, is_full, placed, placed_as, with_file}
use Rattle.ddc_base.specs.Limits.{most_content, most_names, most_total}
use Rattle.mem_files.proofs.Directory.{from_sorted-put, len-from_sorted}
use Rattle.mem_files.specs.Sound.{IsSound}
use Rattle.mem_files.proofs.KeepingCalls.{stripped-is}
use Rattle.mem_files.proofs.Rules.{first-sound, placed-sound}
use Rattle.mem_files.specs.declared.open_file.PlaceRefusal.TheVariants.{BadName, Twice, Full}
use Rattle.mem_files.proofs.Totals.{total-insert}
use Rattle.guest_run.specs.Setting.{file_size, FileMap, files_size, IsBoxFile}
use Rattle.guest_run.specs.Inside.Given.{IsGiven}
use Rattle.guest_run.specs.Start.{start_world, with_given}

abbrev File : Type 0
File = List ℕ × List ℕ

both : (a b : Bool) → T (a && b) → T a × T b
both true b h = (tt, h)
both false b h = absurd h

all_onto : (P : File → Type 0) (x : File) (xs : List File) → P x → All P xs → All P (x ∷ xs)
all_onto P x xs first others zero d lt = first
all_onto P x xs first others (suc k) d lt = others k d (omega arith)

-- a list with one file more, of a new name
record Added (P : File → Type 0) (name content : List ℕ) (files : List File) : Type 0 where
  all : All P (fin.put bytes_cmp name content files)
  longer : length (fin.put bytes_cmp name content files) ≡ length files + 1
  larger : sum_by file_size (fin.put bytes_cmp name content files) ≡ sum_by file_size files + length content

added : (P : File → Type 0) (name content : List ℕ) (files : List File) → P (name, content) → All P files
    → fin.find bytes_cmp name files ≡ None → Added P name content files
added P name content [] here others absent = record {
  all = all_onto P (name, content) [] here others;
  longer = refl;
  larger = refl;
}
added P name content (file ∷ files) here others absent =
    let Q : List File → Type 0 = λ list.
    All P list × (length list ≡ length (file ∷ files) + 1) × (sum_by file_size list ≡ sum_by file_size (file ∷ files) + length content) in
    let cases : (r : Ordering) → cond (is_eq r) (Some file.1) (fin.find bytes_cmp name files) ≡ None
    → Q (by_order r ((name, content) ∷ file ∷ files) ((file.0, content) ∷ files) (file ∷ fin.put bytes_cmp name content files)) =
    λ r. elim r as (λ o. cond (is_eq o) (Some file.1) (fin.find bytes_cmp name files) ≡ None
    → Q (by_order o ((name, content) ∷ file ∷ files) ((file.0, content) ∷ files) (file ∷ fin.put bytes_cmp name content files))) [
      | Less ↦ (λ gone. (
        all_onto P (name, content) (file ∷ files) here others,
        omega arith,
        (let sum = sum_by-cons file_size (name, content) (file ∷ files) in omega (arith, sum)),
      ))
      | Equal ↦ (λ gone. cc)
      | Greater ↦ (λ gone.
          let rest = added P name content files here (All-tail P file files others) gone in (
            all_onto P file (fin.put bytes_cmp name content files) (All-head P file files others) rest.all,
            (let long = rest.longer in omega arith),
            (let one = sum_by-cons file_size file (fin.put bytes_cmp name content files) in
                let two = sum_by-cons file_size file files in
                let large = rest.larger in omega (arith, one, two, large)),
          ))
    ] in
    let all = cases (bytes_cmp name file.0) absent in
    record { all = all.0; longer = all.1; larger = all.2 }

pub given_more : (files : List File) (size : ℕ) (name content : List ℕ) → IsGiven files size → IsBoxFile (name, content)
    → fin.find bytes_cmp name files ≡ None → length files < most_names
    → IsGiven (fin.put bytes_cmp name content files) (size + length content)
given_more files size name content is one absent few =
    let more = added IsBoxFile name content files one is.each absent in
    let small = one.small in
    let longer = more.longer in
    let larger = more.larger in
    record {
      sorted = is_true _ (is_sorted-put bytes_cmp nat_list_cmp_total name content files (of_true _ is.sorted));
      each = more.all;
      few = omega arith;
      counted = (let was = is.counted in omega arith);
      bounded = (let was = is.bounded in omega arith);
    }
  where
    is_true : (b : Bool) → T b → IsTrue b
    is_true true h = refl
    is_true false h = absurd h

    of_true : (b : Bool) → IsTrue b → T b
    of_true true h = tt
    of_true false h = absurd (let gone : false ≡ true = h in cc)

of_true : (b : Bool) → IsTrue b → T b
of_true true h = tt
of_true false h = absurd (let gone : false ≡ true = h in cc)

-- what a map of these files answers
pub get-given : (files : List File) (name : List ℕ) → IsTrue (fin.is_sorted bytes_cmp files)
    → fin.get (fin.from_sorted {R = bytes_cmp} files) name ≡ fin.find bytes_cmp name files
get-given files name sorted = fin.get-from_sorted bytes_cmp files name (of_true _ sorted)

pub len-given : (files : List File) → IsTrue (fin.is_sorted bytes_cmp files) → fin.len (fin.from_sorted {R = bytes_cmp} files) ≡ length files
len-given files sorted = len-from_sorted files (of_true _ sorted)

pub entries-given : (files : List File) → IsTrue (fin.is_sorted bytes_cmp files) → fin.entries (fin.from_sorted {R = bytes_cmp} files) ≡ files
entries-given files sorted = fin.entries-from_sorted bytes_cmp files (of_true _ sorted)

pub put-given : (files : List File) (name content : List ℕ) → IsTrue (fin.is_sorted bytes_cmp files)
    → fin.from_sorted (fin.put bytes_cmp name content files) ≡ fin.insert (fin.from_sorted {R = bytes_cmp} files) name content
put-given files name content sorted = from_sorted-put files (of_true _ sorted) name content

none_of : (o : Option (List ℕ)) → is_some o ≡ false → o ≡ None
none_of None h = refl
none_of (Some x) h = cc

pub absent-given : (files : List File) (name : List ℕ) → IsTrue (fin.is_sorted bytes_cmp files)
    → fin.contains_key (fin.from_sorted {R = bytes_cmp} files) name ≡ false → fin.find bytes_cmp name files ≡ None
absent-given files name sorted absent = none_of _ (ap is_some (sym (get-given files name sorted)) ∙ absent)

pub none-given : IsGiven [] 0
none-given = record {
  sorted = refl;
  each = λ k d lt. absurd (omega arith);
  few = omega arith;
  counted = refl;
  bounded = omega arith;
}

-- files that a world without their names can take, one after the other
pub record CanPlace (world : World) (files : List File) : Type 0 where
  pub sorted : IsTrue (fin.is_sorted bytes_cmp files)
  pub named : All (λ file. IsTrue (is_stripped_name file.0)) files
  pub small : All (λ file. length file.1 ≤ most_content) files
  pub fresh : All (λ file. fin.get world.names file.0 ≡ None) files
  pub few : fin.len world.names + length files ≤ most_names
  pub capacity : total world + sum_by file_size files ≤ most_total

-- a stripped name stays as it is
and_true : (a b : Bool) → (a && b) ≡ true → (a ≡ true) × (b ≡ true)
and_true true b h = (refl, h)
and_true false b h = cc

not_true : (b : Bool) → not b ≡ true → b ≡ false
not_true true h = cc
not_true false h = refl

stays : (name : List ℕ) → begins_with_dot_slash name ≡ false → stripped name ≡ name
stays [] h = refl
stays (a ∷ []) h = refl
stays (a ∷ (b ∷ rest)) h = ap (λ t. cond t (stripped rest) (a ∷ (b ∷ rest))) h

stripped_stays : (name : List ℕ) → IsTrue (is_stripped_name name) → stripped name ≡ name
stripped_stays name is =
    stays name (not_true (begins_with_dot_slash name) ((and_true (is_file_name name) (not (begins_with_dot_slash name)) is).1))

-- a name that was stripped and is one
pub good_name : (name : List ℕ) → is_file_name (stripped name) ≡ true → IsTrue (is_stripped_name (stripped name))
good_name name is =
    ap (λ b. b && not (begins_with_dot_slash (stripped name))) is ∙ ap not (stripped-is name)

-- the place of a file that no rule refuses
placed_well : (world : World) (name content : List ℕ) → is_file_name name ≡ true → fin.contains_key world.names name ≡ false
    → is_full world (length content) ≡ false → placed_as world name content ≡ (Ok tt, with_file world name content)
placed_well world name content is absent capacity =
    λ i. cond (not (is i)) (Err BadName, world)
    (cond (absent i) (Err Twice, world) (cond (capacity i) (Err Full, world) (Ok tt, with_file world name content)))

not_full : (world : World) (len : ℕ) → len ≤ most_content → total world + len ≤ most_total → fin.len world.names < most_names → is_full world len ≡ false
not_full world len small capacity few = full_of (total world) len (fin.len world.names) small capacity few
  where
    full_of : (t l n : ℕ) → l ≤ most_content → t + l ≤ most_total → n < most_names
        → (nat_lt most_content l || nat_lt most_total (t + l) || nat_le most_names n) ≡ false
    full_of t l n small' capacity' few' = grind (arith, nat_tests)

-- what the first of the files leaves
size_of_more : (file : File) (files : List File) → sum_by file_size (file ∷ files) ≡ length file.1 + sum_by file_size files
size_of_more file files = sum_by-cons file_size file files

pub place_next : (world : World) (file : File) (files : List File) → CanPlace world (file ∷ files)
    → placed world file.0 file.1 ≡ (Ok tt, with_file world file.0 file.1)
place_next world file files can =
    let named : IsTrue (is_stripped_name file.0) = All-head (λ f. IsTrue (is_stripped_name f.0)) file files can.named in
    let fresh : fin.get world.names file.0 ≡ None = All-head (λ f. fin.get world.names f.0 ≡ None) file files can.fresh in
    let small : length file.1 ≤ most_content = All-head (λ f. length f.1 ≤ most_content) file files can.small in
    let more = size_of_more file files in
    let capacity = can.capacity in
    let few = can.few in
    ap (λ name. placed_as world name file.1) (stripped_stays file.0 named)
    ∙ placed_well world file.0 file.1 ((and_true (is_file_name file.0) (not (begins_with_dot_slash file.0)) named).0) (ap is_some fresh)
    (not_full world (length file.1) small (omega (arith, more)) (omega arith))

-- a name below all others is none of them
below_at : (name : List ℕ) (files : List File) → T (below_all bytes_cmp name files) → (k : ℕ) (d : File) → k < length files
    → is_lt (bytes_cmp name (get_or files k d).0) ≡ true
below_at name [] below k d lt = absurd (omega arith)
below_at name (file ∷ files) below zero d lt = true_of (is_lt (bytes_cmp name file.0)) ((both (is_lt (bytes_cmp name file.0)) (below_all bytes_cmp name files) below).0)
  where
    true_of : (b : Bool) → T b → b ≡ true
    true_of true h = refl
    true_of false h = absurd h
below_at name (file ∷ files) below (suc k) d lt =
    below_at name files ((both (is_lt (bytes_cmp name file.0)) (below_all bytes_cmp name files) below).1) k d (omega arith)

less_is_not_equal : (r : Ordering) → is_lt r ≡ true → is_eq r ≡ false
less_is_not_equal Less h = refl
less_is_not_equal Equal h = cc
less_is_not_equal Greater h = cc

pub placed_next : (world : World) (file : File) (files : List File) → CanPlace world (file ∷ files)
    → CanPlace (with_file world file.0 file.1) files
placed_next world file files can =
    let parts = and_true (below_all bytes_cmp file.0 files) (fin.is_sorted bytes_cmp files) can.sorted in
    let fresh : fin.get world.names file.0 ≡ None = All-head (λ f. fin.get world.names f.0 ≡ None) file files can.fresh in
    let more = size_of_more file files in
    let number = lowest_unused world.files in
    let grown : total (with_file world file.0 file.1) + length (content_of world (lowest_unused world.files)) ≡ total world + length file.1 =
    total-insert world (lowest_unused world.files) file.1 in
    let longer : fin.len (fin.insert world.names file.0 (lowest_unused world.files)) ≡ fin.len world.names + 1 =
    fin.len-insert nat_list_cmp_total world.names file.0 (lowest_unused world.files)
    ∙ ap (λ o. cond (is_some o) (fin.len world.names) (fin.len world.names + 1)) fresh in
    let few = can.few in
    let capacity = can.capacity in
    record {
      sorted = parts.1;
      named = All-tail (λ f. IsTrue (is_stripped_name f.0)) file files can.named;
      small = All-tail (λ f. length f.1 ≤ most_content) file files can.small;
      fresh = λ k d lt.
          fin.get-insert nat_list_cmp_total world.names file.0 (lowest_unused world.files) (get_or files k d).0
          ∙ ap (λ b. cond b (Some (lowest_unused world.files)) (fin.get world.names (get_or files k d).0))
          ((eq_by_cmp_equiv nat_list_cmp_total).symm (get_or files k d).0 file.0
          ∙ less_is_not_equal (bytes_cmp file.0 (get_or files k d).0)
          (below_at file.0 files (of_true (below_all bytes_cmp file.0 files) parts.0) k d lt))
          ∙ All-tail (λ f. fin.get world.names f.0 ≡ None) file files can.fresh k d lt;
      few = omega (arith, longer);
      capacity = omega (arith, more, grown);
    }

-- a world with no file takes all that are given
no_bytes : total first_world ≡ 0
no_bytes = ap (λ es. 0 + 0 + sum_by length (map (λ (e : ℕ × List ℕ). e.1) es)) (nil _ (sym (fin.len-entries fin.empty) ∙ fin.len-empty nat_cmp (List ℕ)))
  where
    nil : (l : List (ℕ × List ℕ)) → length l ≡ 0 → l ≡ []
    nil [] e = refl
    nil (x ∷ l) e = absurd (omega arith)

-- the files of a box, one by one
names_of : (files : List File) → All IsBoxFile files → All (λ file. IsTrue (is_stripped_name file.0)) files
names_of files each = All-weaker IsBoxFile (λ file. IsTrue (is_stripped_name file.0)) (λ file is. is.named) files each

sizes_of : (files : List File) → All IsBoxFile files → All (λ file. length file.1 ≤ most_content) files
sizes_of files each = All-weaker IsBoxFile (λ file. length file.1 ≤ most_content) (λ file is. is.small) files each

pub can_start : (files : List File) (size : ℕ) → IsTrue (fin.is_sorted bytes_cmp files) → All IsBoxFile files → length files ≤ most_names
    → size ≡ sum_by file_size files → size ≤ most_total → CanPlace first_world files
can_start files size sorted each few counted capacity =
    let none = no_bytes in
    let names : fin.len first_world.names ≡ 0 = fin.len-empty bytes_cmp ℕ in
    record {
      sorted = sorted;
      named = names_of files each;
      small = sizes_of files each;
      fresh = λ k d lt. fin.get-empty bytes_cmp (get_or files k d).0;
      few = omega (arith, names);
      capacity = omega (arith, none);
    }

-- the files of a start keep their rules
sound_from : (files : List File) (world : World) → IsSound world → CanPlace world files → All IsBoxFile files → IsSound (fold with_given world files)
sound_from [] world sound can each = sound
sound_from (file ∷ files) world sound can each =
    let one = All-head IsBoxFile file files each in
    sound_from files (with_file world file.0 file.1)
    (subst IsSound (ap (λ p. p.1) (place_next world file files can)) (placed-sound world file.0 file.1 sound one.name_bytes one.content_bytes))
    (placed_next world file files can) (All-tail IsBoxFile file files each)

pub start-sound : (files : FileMap) → All IsBoxFile (fin.entries files) → fin.len files ≤ most_names → files_size files ≤ most_total → IsSound (start_world files)
unfolding start_world
start-sound files each few small =
    let sorted = is_true _ (fin.entries_sorted files) in
    sound_from (fin.entries files) first_world first-sound
    (can_start (fin.entries files) (files_size files) sorted each (omega (arith, fin.len-entries files, few)) refl small) each
  where
    is_true : (b : Bool) → T b → IsTrue b
    is_true true h = refl
    is_true false h = absurd h

-- the files of a map that was made of such a list
pub each-given : (files : List File) (size : ℕ) → IsGiven files size → All IsBoxFile (fin.entries (fin.from_sorted {R = bytes_cmp} files))
each-given files size is = subst (All IsBoxFile) (sym (entries-given files is.sorted)) is.each

-- the world of files that are given, as the list of them makes it
pub world-given : (files : List File) (given : FileMap) → IsTrue (fin.is_sorted bytes_cmp files)
    → fin.from_sorted {R = bytes_cmp} files ≡ given → fold with_given first_world files ≡ start_world given
unfolding start_world
world-given files given sorted same =
    ap (fold with_given first_world) (sym (entries-given files sorted)) ∙ ap (λ m. fold with_given first_world (fin.entries m)) same

pub size-given : (files : List File) (size : ℕ) (given : FileMap) → IsGiven files size → fin.from_sorted {R = bytes_cmp} files ≡ given
    → size ≡ files_size given
size-given files size given is same =
    is.counted ∙ ap (sum_by file_size) (sym (entries-given files is.sorted)) ∙ ap files_size same

-- no file at all
pub map-none : fin.from_sorted {X = List ℕ} {R = bytes_cmp} [] ≡ fin.empty
map-none = fin.empty_of_len (fin.from_sorted []) (len-given [] refl)
