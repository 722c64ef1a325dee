-- What the tests say: they are the rules.
use Rattle.std.proofs.Common.{◌≡◌, ℕ, ◌<◌, ◌≤◌, Bool, true, false, not, ◌&&◌, ◌||◌, eqb-true, eq-eqb, nat_le, nat_lt, List, [], ◌∷◌, length, map, Option, Some, None, refl, sym, ap, ◌∙◌, arith}
use Rattle.std.specs.Prelude.{All, IfSome}
use Rattle.std.specs.List.{list_all, list_any, AllByRecursion, IsDistinct}
use Rattle.std.specs.Ordering.{eq_by_cmp}
use Rattle.std.proofs.lemmas.Bool.{false≢true}
use Rattle.std.proofs.lemmas.Bool.Decides.{nat_tests}
use Rattle.std.proofs.lemmas.List.Elements.{All-head, All-tail, All-cons, All-nil}
use Rattle.std.proofs.lemmas.Map.Text.{is_eq-slice_cmp}
use Rattle.mem_files.specs.declared.open_file.OpenFile.{OpenFile}
use Rattle.mem_files.specs.declared.open_file.OpenFile.TheVariants.{Input, Stream1, Stream2, File}
use Rattle.mem_files.specs.Names.{bytes_cmp}
use Rattle.ddc_base.specs.Limits.{file_number_end, most_content, most_names, most_total}
use Rattle.mem_files.specs.Sound.{AreBytes, IsOpenFileAt}
use Rattle.mem_files.specs.Outputs.{IsContent}
use Rattle.mem_files.specs.Lists.{ListedFile, FileLists, named, with_name, IsHeldName, is_listed, is_used, AreInRange, AreJoined}
use Rattle.checkpoints.specs.FileParts.Inside.Judged.{is_good_name, is_good_file, is_open_file_at, is_good_open_file, is_called, is_taken, have_own_names, size, in_range, are_joined}
use Rattle.checkpoints.specs.FileParts.Inside.Views.{AreParts, HasBytes}

first : (a b : Bool) → (a && b) ≡ true → a ≡ true
first true b h = refl
first false b h = h

second : (a b : Bool) → (a && b) ≡ true → b ≡ true
second true b h = h
second false b h = absurd (false≢true h)

both : (a b : Bool) → a ≡ true → b ≡ true → (a && b) ≡ true
both true b p q = q
both false b p q = p

-- a test of all elements
passes : {A : Type 0} (p : A → Bool) (xs : List A) → list_all p xs ≡ true → All (λ x. p x ≡ true) xs
passes p [] h = All-nil (λ x. p x ≡ true)
passes p (x ∷ xs) h = All-cons (λ x. p x ≡ true) x xs (first (p x) (list_all p xs) h) (passes p xs (second (p x) (list_all p xs) h))

passing : {A : Type 0} (p : A → Bool) (xs : List A) → All (λ x. p x ≡ true) xs → list_all p xs ≡ true
passing p [] all = refl
passing p (x ∷ xs) all = both (p x) (list_all p xs) (All-head (λ x. p x ≡ true) x xs all) (passing p xs (All-tail (λ x. p x ≡ true) x xs all))

with_bytes : {A : Type 0} (P Q R : A → Type 0) (xs : List A) → ((x : A) → P x → Q x → R x) → All P xs → All Q xs → All R xs
with_bytes P Q R xs f p q k d less = f _ (p k d less) (q k d less)

alone : {A : Type 0} (P R : A → Type 0) (xs : List A) → ((x : A) → P x → R x) → All P xs → All R xs
alone P R xs f p k d less = f _ (p k d less)

-- names
name_good : (o : Option (List ℕ)) → is_good_name o ≡ true → IfSome o AreBytes → IfSome o IsHeldName
name_good None h b = tt
name_good (Some name) h b = (h, b)

good_name : (o : Option (List ℕ)) → IfSome o IsHeldName → is_good_name o ≡ true
good_name None h = refl
good_name (Some name) h = h.0

names_all : (files : List ListedFile) → All (λ f. IfSome f.name IsHeldName) files → All (λ e. IsHeldName e.0) (named files)
names_all [] all = All-nil (λ e. IsHeldName e.0)
names_all (f ∷ files) all = at f.name (All-head (λ f. IfSome f.name IsHeldName) f files all) (names_all files (All-tail (λ f. IfSome f.name IsHeldName) f files all))
  where
    at : (o : Option (List ℕ)) → IfSome o IsHeldName → All (λ e. IsHeldName e.0) (named files) → All (λ e. IsHeldName e.0) (with_name o f.number (named files))
    at None h rest = rest
    at (Some name) h rest = All-cons (λ e. IsHeldName e.0) (name, f.number) (named files) h rest

all_names : (files : List ListedFile) → All (λ e. IsHeldName e.0) (named files) → All (λ f. IfSome f.name IsHeldName) files
all_names [] all = All-nil (λ f. IfSome f.name IsHeldName)
all_names (f ∷ files) all = let parts = at f.name all in All-cons (λ f. IfSome f.name IsHeldName) f files parts.0 (all_names files parts.1)
  where
    at : (o : Option (List ℕ)) → All (λ e. IsHeldName e.0) (with_name o f.number (named files)) → IfSome o IsHeldName × All (λ e. IsHeldName e.0) (named files)
    at None all = (tt, all)
    at (Some name) all = (All-head (λ e. IsHeldName e.0) (name, f.number) (named files) all, All-tail (λ e. IsHeldName e.0) (name, f.number) (named files) all)

-- names that stand once
untaken : (name : List ℕ) (files : List ListedFile) → list_any (λ file. is_called name file.name) files ≡ false → AllByRecursion (λ other. eq_by_cmp bytes_cmp name other ≡ false) (map (λ e. e.0) (named files))
untaken name [] free = tt
untaken name (f ∷ files) free = at f.name (neither (is_called name f.name) _ free).0 (untaken name files (neither (is_called name f.name) _ free).1)
  where
    neither : (a b : Bool) → (a || b) ≡ false → (a ≡ false) × (b ≡ false)
    neither true b h = absurd (false≢true (sym h))
    neither false b h = (refl, h)

    at : (o : Option (List ℕ)) → is_called name o ≡ false → AllByRecursion (λ other. eq_by_cmp bytes_cmp name other ≡ false) (map (λ e. e.0) (named files))
        → AllByRecursion (λ other. eq_by_cmp bytes_cmp name other ≡ false) (map (λ e. e.0) (with_name o f.number (named files)))
    at None h rest = rest
    at (Some other) h rest = (is_eq-slice_cmp name other ∙ h, rest)

free_name : (name : List ℕ) (files : List ListedFile) → AllByRecursion (λ other. eq_by_cmp bytes_cmp name other ≡ false) (map (λ e. e.0) (named files)) → list_any (λ file. is_called name file.name) files ≡ false
free_name name [] all = refl
free_name name (f ∷ files) all = let parts = at f.name all in none (is_called name f.name) _ parts.0 (free_name name files parts.1)
  where
    none : (a b : Bool) → a ≡ false → b ≡ false → (a || b) ≡ false
    none true b p q = p
    none false b p q = q

    at : (o : Option (List ℕ)) → AllByRecursion (λ other. eq_by_cmp bytes_cmp name other ≡ false) (map (λ e. e.0) (with_name o f.number (named files)))
        → (is_called name o ≡ false) × AllByRecursion (λ other. eq_by_cmp bytes_cmp name other ≡ false) (map (λ e. e.0) (named files))
    at None all = (refl, all)
    at (Some other) all = (sym (is_eq-slice_cmp name other) ∙ all.0, all.1)

negated : (b : Bool) → not b ≡ true → b ≡ false
negated true h = absurd (false≢true h)
negated false h = refl

own_names : (files : List ListedFile) → have_own_names files ≡ true → IsDistinct (eq_by_cmp bytes_cmp) (map (λ e. e.0) (named files))
unfolding IsDistinct
own_names [] h = tt
own_names (f ∷ files) h = at f.name (negated (is_taken f.name files) (first (not (is_taken f.name files)) _ h)) (own_names files (second (not (is_taken f.name files)) _ h))
  where
    at : (o : Option (List ℕ)) → is_taken o files ≡ false → IsDistinct (eq_by_cmp bytes_cmp) (map (λ e. e.0) (named files)) → IsDistinct (eq_by_cmp bytes_cmp) (map (λ e. e.0) (with_name o f.number (named files)))
    at None h rest = rest
    at (Some name) h rest = (untaken name files h, rest)

names_own : (files : List ListedFile) → IsDistinct (eq_by_cmp bytes_cmp) (map (λ e. e.0) (named files)) → have_own_names files ≡ true
unfolding IsDistinct
names_own [] h = refl
names_own (f ∷ files) h = let parts = at f.name h in both (not (is_taken f.name files)) (have_own_names files) (ap not parts.0) (names_own files parts.1)
  where
    at : (o : Option (List ℕ)) → IsDistinct (eq_by_cmp bytes_cmp) (map (λ e. e.0) (with_name o f.number (named files)))
        → (is_taken o files ≡ false) × IsDistinct (eq_by_cmp bytes_cmp) (map (λ e. e.0) (named files))
    at None h = (refl, h)
    at (Some name) h = (free_name name files h.0, h.1)

-- descriptors
open_file_right : (fd : ℕ) (open_file : OpenFile) → is_open_file_at fd open_file ≡ true → IsOpenFileAt fd open_file
open_file_right fd Input h = eqb-true fd 0 h
open_file_right fd Stream1 h = eqb-true fd 1 h
open_file_right fd Stream2 h = eqb-true fd 2 h
open_file_right fd (File number file_offset access) h = grind (arith, nat_tests)

right_open_file : (fd : ℕ) (open_file : OpenFile) → IsOpenFileAt fd open_file → is_open_file_at fd open_file ≡ true
right_open_file fd Input h = eq-eqb fd 0 h
right_open_file fd Stream1 h = eq-eqb fd 1 h
right_open_file fd Stream2 h = eq-eqb fd 2 h
right_open_file fd (File number file_offset access) h = grind (arith, nat_tests)

at_most : (a b : ℕ) → nat_le a b ≡ true → a ≤ b
at_most a b h = grind (arith, nat_tests)

le_true : (a b : ℕ) → a ≤ b → nat_le a b ≡ true
le_true a b h = grind (arith, nat_tests)

less : (a b : ℕ) → nat_lt a b ≡ true → a < b
less a b h = grind (arith, nat_tests)

lt_true : (a b : ℕ) → a < b → nat_lt a b ≡ true
lt_true a b h = grind (arith, nat_tests)

module _ (lists : FileLists) (parts : AreParts lists) where
  abbrev files_good : Bool
  files_good = list_all is_good_file lists.files

  abbrev open_files_good : Bool
  open_files_good = list_all is_good_open_file lists.open_files

  abbrev streams_good : Bool
  streams_good = list_all (λ stream. nat_le (length stream) most_content) lists.streams

  abbrev names_few : Bool
  names_few = nat_le (length (named lists.files)) most_names

  abbrev all_small : Bool
  all_small = nat_le (size lists) most_total

  abbrev own : Bool
  own = have_own_names lists.files

  -- the three tests of a file
  abbrev header_of : ListedFile → Bool
  header_of f = nat_lt f.number file_number_end && is_good_name f.name

  file_number : (f : ListedFile) → is_good_file f ≡ true → f.number < file_number_end
  file_number f h = less f.number file_number_end (first (nat_lt f.number file_number_end) (is_good_name f.name) (first (header_of f) (nat_le (length f.content) most_content) h))

  file_name : (f : ListedFile) → is_good_file f ≡ true → is_good_name f.name ≡ true
  file_name f h = second (nat_lt f.number file_number_end) (is_good_name f.name) (first (header_of f) (nat_le (length f.content) most_content) h)

  file_content : (f : ListedFile) → is_good_file f ≡ true → length f.content ≤ most_content
  file_content f h = at_most (length f.content) most_content (second (header_of f) (nat_le (length f.content) most_content) h)

  pub in_range-says : in_range lists ≡ true → AreInRange lists
  unfolding in_range
  in_range-says h =
      let h1 = first (files_good && open_files_good && streams_good && names_few && all_small) own h in
      let h2 = first (files_good && open_files_good && streams_good && names_few) all_small h1 in
      let h3 = first (files_good && open_files_good && streams_good) names_few h2 in
      let h4 = first (files_good && open_files_good) streams_good h3 in
      let files = passes is_good_file lists.files (first files_good open_files_good h4) in
      let open_files = passes is_good_open_file lists.open_files (second files_good open_files_good h4) in
      let streams = passes (λ stream. nat_le (length stream) most_content) lists.streams (second (files_good && open_files_good) streams_good h3) in
      record {
        few_names = at_most (length (named lists.files)) most_names (second (files_good && open_files_good && streams_good) names_few h2);
        good_names = names_all lists.files (with_bytes (λ f. is_good_file f ≡ true) HasBytes (λ f. IfSome f.name IsHeldName) lists.files (λ f good bytes. name_good f.name (file_name f good) bytes.name) files parts.file_bytes);
        distinct = own_names lists.files (second (files_good && open_files_good && streams_good && names_few && all_small) own h);
        low_numbers = alone (λ f. is_good_file f ≡ true) (λ f. f.number < file_number_end) lists.files file_number files;
        good_files = with_bytes (λ f. is_good_file f ≡ true) HasBytes (λ f. IsContent f.content) lists.files (λ f good bytes. record { bytes = bytes.content; small = file_content f good }) files parts.file_bytes;
        good_streams = with_bytes (λ stream. nat_le (length stream) most_content ≡ true) AreBytes IsContent lists.streams (λ stream good bytes. record { bytes = bytes; small = at_most (length stream) most_content good }) streams parts.stream_bytes;
        small_total = at_most (size lists) most_total (second (files_good && open_files_good && streams_good && names_few) all_small h1);
        low_open_files = alone (λ held. is_good_open_file held ≡ true) (λ held. held.0 < 1024) lists.open_files (λ held good. less held.0 1024 (first (nat_lt held.0 1024) (is_open_file_at held.0 held.1) good)) open_files;
        good_open_files = alone (λ held. is_good_open_file held ≡ true) (λ held. IsOpenFileAt held.0 held.1) lists.open_files (λ held good. open_file_right held.0 held.1 (second (nat_lt held.0 1024) (is_open_file_at held.0 held.1) good)) open_files;
      }

  pub range-passes : AreInRange lists → in_range lists ≡ true
  unfolding in_range
  range-passes range =
      let names = all_names lists.files range.good_names in
      let files : All (λ f. is_good_file f ≡ true) lists.files = λ k d inside.
      both _ _ (both _ _ (lt_true _ file_number_end (range.low_numbers k d inside)) (good_name _ (names k d inside))) (le_true _ most_content (range.good_files k d inside).small) in
      let open_files : All (λ held. is_good_open_file held ≡ true) lists.open_files = λ k d inside. both _ _ (lt_true _ 1024 (range.low_open_files k d inside)) (right_open_file _ _ (range.good_open_files k d inside)) in
      let streams : All (λ stream. nat_le (length stream) most_content ≡ true) lists.streams = λ k d inside. le_true _ most_content (range.good_streams k d inside).small in
      both (files_good && open_files_good && streams_good && names_few && all_small) own
      (both (files_good && open_files_good && streams_good && names_few) all_small
      (both (files_good && open_files_good && streams_good) names_few
      (both (files_good && open_files_good) streams_good
      (both files_good open_files_good (passing is_good_file lists.files files) (passing is_good_open_file lists.open_files open_files))
      (passing (λ stream. nat_le (length stream) most_content) lists.streams streams))
      (le_true (length (named lists.files)) most_names range.few_names)) (le_true (size lists) most_total range.small_total)) (names_own lists.files range.distinct)

module _ (lists : FileLists) where
  abbrev all_listed : Bool
  all_listed = list_all (λ held. is_listed lists.files held.1) lists.open_files

  abbrev all_used : Bool
  all_used = list_all (is_used lists.open_files) lists.files

  pub joined-says : are_joined lists ≡ true → AreJoined lists
  unfolding are_joined
  joined-says h = record {
    held = passes (λ held. is_listed lists.files held.1) lists.open_files (first all_listed all_used h);
    used = passes (is_used lists.open_files) lists.files (second all_listed all_used h);
  }

  pub joined-passes : AreJoined lists → are_joined lists ≡ true
  unfolding are_joined
  joined-passes refer = both all_listed all_used (passing (λ held. is_listed lists.files held.1) lists.open_files refer.held) (passing (is_used lists.open_files) lists.files refer.used)
