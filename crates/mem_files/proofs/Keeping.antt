-- Each call keeps the limits, and keeps names, files and descriptors fitting together.
use Rattle.std.proofs.Common.{◌≡◌, ◌≢◌, ℕ, ◌+◌, ◌-◌, ◌<◌, ◌≤◌, Bool, true, false, cond, ◌||◌, eqb, List, [], ◌∷◌, ◌++◌, length, map, Option, Some, None, IsSome, is_some, IsTrue, refl, sym, ap, ◌∙◌, arith, eq-eqb, eqb-true}
use Rattle.std.specs.List.{list_any}
use Rattle.std.proofs.lemmas.List.{length-map, length-append}
use Rattle.std.proofs.lemmas.Map.Steps.{le-length_from_below}
use Rattle.std.proofs.lemmas.Bool.{false≢true}
use Rattle.std.proofs.lemmas.Option.{same_Some}
use Rattle.std.specs.Ordering.{nat_cmp}
use Rattle.std.specs.Cmp.{nat_cmp_total}
use Rattle.std.specs.Cmp.Lexicographic.{nat_list_cmp_total}
use Rattle.std.specs.FinMap as fin
use Rattle.mem_files.specs.declared.open_file.OpenFile.{OpenFile}
use Rattle.mem_files.specs.declared.open_file.OpenFile.TheVariants.{Input, Stream1, Stream2, File}
use Rattle.ddc_base.specs.Limits.{most_descriptors, most_names, most_content, most_total}
use Rattle.mem_files.specs.Names.{bytes_cmp, is_stripped_name}
use Rattle.mem_files.specs.World.{World, total, is_of, is_named, is_open, lowest_unused}
use Rattle.mem_files.specs.Calls.{without_unused, closed, closed_at, removed, removed_at}
use Rattle.mem_files.specs.Inside.Kept.{IsHeldOpenFile, IsKept}
use Rattle.mem_files.proofs.Totals.{total-remove}
use Rattle.mem_files.proofs.Maps.{below-lowest_unused, any_at, key_of_any}
use Rattle.mem_files.proofs.Entries.{some_of, is_some_of, left, remove_cases, name_left, name_remove_cases}

-- tests of use
pub or_left : (a b : Bool) → a ≡ true → (a || b) ≡ true
or_left true b h = refl
or_left false b h = absurd (false≢true h)

pub or_right : (a b : Bool) → b ≡ true → (a || b) ≡ true
or_right true b h = refl
or_right false b h = h

pub or_cases : {P : Type 0} (a b : Bool) → (a || b) ≡ true → (a ≡ true → P) → (b ≡ true → P) → P
or_cases true b h f g = f refl
or_cases false b h f g = g h

pub neither : (a b : Bool) → (a || b) ≡ false → (a ≡ false) × (b ≡ false)
neither true b h = absurd (false≢true (sym h))
neither false b h = (refl, h)

pub named_by : (w : World) (name : List ℕ) (number : ℕ) → fin.get w.names name ≡ Some number → is_named w number ≡ true
named_by w name number e = any_at nat_list_cmp_total (λ held. eqb held number) w.names name number e (eq-eqb number number refl)

pub open_by : (w : World) (fd : ℕ) (open_file : OpenFile) (number : ℕ) → fin.get w.open_files fd ≡ Some open_file → is_of number open_file ≡ true → is_open w number ≡ true
open_by w fd open_file number e of = any_at nat_cmp_total (is_of number) w.open_files fd open_file e of

pub name_of : (w : World) (number : ℕ) → is_named w number ≡ true → (name : List ℕ) × (fin.get w.names name ≡ Some number)
name_of w number h =
    let key = key_of_any nat_list_cmp_total (λ held. eqb held number) w.names h in
    (key.0, key.2 ∙ ap (λ n. Some n) (eqb-true key.1 number key.3))

pub open_file_of : (w : World) (number : ℕ) → is_open w number ≡ true → (fd : ℕ) × (open_file : OpenFile) × (fin.get w.open_files fd ≡ Some open_file) × (is_of number open_file ≡ true)
open_file_of w number h = key_of_any nat_cmp_total (is_of number) w.open_files h

-- the numbers of the files that names and descriptors have
abbrev number_of : OpenFile → ℕ
number_of Input = 0
number_of Stream1 = 0
number_of Stream2 = 0
number_of (File number file_offset access) = number

among_names : (q : ℕ) (xs ys : List ℕ) → list_any (λ held. eqb held q) xs ≡ true → list_any (eqb q) (xs ++ ys) ≡ true
among_names q [] ys h = absurd (false≢true h)
among_names q (x ∷ xs) ys h = or_cases (eqb x q) (list_any (λ held. eqb held q) xs) h
    (λ e. or_left (eqb q x) _ (eq-eqb q x (sym (eqb-true x q e)))) (λ e. or_right (eqb q x) _ (among_names q xs ys e))

among_open_files : (q : ℕ) (xs : List ℕ) (ss : List OpenFile) → list_any (is_of q) ss ≡ true → list_any (eqb q) (xs ++ map number_of ss) ≡ true
among_open_files q (x ∷ xs) ss h = or_right (eqb q x) _ (among_open_files q xs ss h)
among_open_files q [] [] h = absurd (false≢true h)
among_open_files q [] (s ∷ ss) h = or_cases (is_of q s) (list_any (is_of q) ss) h
    (λ e. or_left (eqb q (number_of s)) _ (eq-eqb q (number_of s) (sym (of_number s e)))) (λ e. or_right (eqb q (number_of s)) _ (among_open_files q [] ss e))
  where
    of_number : (s : OpenFile) → is_of q s ≡ true → number_of s ≡ q
    of_number Input e = absurd (false≢true e)
    of_number Stream1 e = absurd (false≢true e)
    of_number Stream2 e = absurd (false≢true e)
    of_number (File number file_offset access) e = eqb-true number q e

-- each used number has a name or a descriptor, so the lowest unused one is at most their count
pub lowest_number-le : (w : World) → IsKept w → lowest_unused w.files ≤ fin.len w.names + fin.len w.open_files
lowest_number-le w s =
    let users : List ℕ = fin.values w.names ++ map number_of (fin.values w.open_files) in
    let known : (q : ℕ) → q < lowest_unused w.files → list_any (eqb q) users ≡ true =
    λ q h. or_cases (is_named w q) (is_open w q) (s.used q (below-lowest_unused w.files q h)) (among_names q (fin.values w.names) (map number_of (fin.values w.open_files))) (among_open_files q (fin.values w.names) (fin.values w.open_files)) in
    omega (
      arith,
      le-length_from_below users (lowest_unused w.files) known,
      length-append (fin.values w.names) (map number_of (fin.values w.open_files)),
      length-map (fin.values w.open_files) number_of,
      length-map (fin.entries w.names) (λ e. e.1),
      length-map (fin.entries w.open_files) (λ e. e.1),
      fin.len-entries w.names,
      fin.len-entries w.open_files,
    )

-- what is left where one number may lack a name and a descriptor
record IsKeptBut (number : ℕ) (w : World) : Type 0 where
  few_names : fin.len w.names ≤ most_names
  few_open_files : fin.len w.open_files ≤ most_descriptors
  small_stream1 : length w.stream1 ≤ most_content
  small_stream2 : length w.stream2 ≤ most_content
  small_files : (n : ℕ) (content : List ℕ) → fin.get w.files n ≡ Some content → length content ≤ most_content
  small_total : total w ≤ most_total
  good_names : (name : List ℕ) (n : ℕ) → fin.get w.names name ≡ Some n → IsTrue (is_stripped_name name)
  held : (name : List ℕ) (n : ℕ) → fin.get w.names name ≡ Some n → IsSome (fin.get w.files n)
  named_once : (name other : List ℕ) (n : ℕ) → fin.get w.names name ≡ Some n → fin.get w.names other ≡ Some n → name ≡ other
  good_open_files : (fd : ℕ) (open_file : OpenFile) → fin.get w.open_files fd ≡ Some open_file → (fd < most_descriptors) × IsHeldOpenFile w fd open_file
  used : (n : ℕ) → n ≢ number → IsSome (fin.get w.files n) → IsTrue (is_named w n || is_open w n)
  low_numbers : (n : ℕ) → IsSome (fin.get w.files n) → n < most_names + most_descriptors

len_remove-le : {X : Type 0} (m : fin.FinMap nat_cmp X) (k : ℕ) → fin.len (fin.remove m k) ≤ fin.len m
len_remove-le m k = at_most (fin.contains_key m k) (fin.len-remove nat_cmp_total m k)
  where
    at_most : (b : Bool) → fin.len (fin.remove m k) ≡ cond b (fin.len m - 1) (fin.len m) → fin.len (fin.remove m k) ≤ fin.len m
    at_most true e = omega arith
    at_most false e = omega arith

len_unname-le : {X : Type 0} (m : fin.FinMap bytes_cmp X) (k : List ℕ) → fin.len (fin.remove m k) ≤ fin.len m
len_unname-le m k = at_most (fin.contains_key m k) (fin.len-remove nat_list_cmp_total m k)
  where
    at_most : (b : Bool) → fin.len (fin.remove m k) ≡ cond b (fin.len m - 1) (fin.len m) → fin.len (fin.remove m k) ≤ fin.len m
    at_most true e = omega arith
    at_most false e = omega arith

pub by_eq : {P : Type 0} (a b : ℕ) → (a ≡ b → P) → (a ≢ b → P) → P
by_eq {P} a b same apart = elim (eqb a b) as (λ t. eqb a b ≡ t → P) [
  | true ↦ λ t. same (eqb-true a b t)
  | false ↦ λ f. apart (λ e. false≢true (sym f ∙ eq-eqb a b e))
] refl

-- a slot stays right where its file stays
pub open_file_kept : (w v : World) (fd : ℕ) (open_file : OpenFile) → ((number : ℕ) → is_of number open_file ≡ true → IsSome (fin.get w.files number) → IsSome (fin.get v.files number)) → IsHeldOpenFile w fd open_file → IsHeldOpenFile v fd open_file
open_file_kept w v fd Input kept h = h
open_file_kept w v fd Stream1 kept h = h
open_file_kept w v fd Stream2 kept h = h
open_file_kept w v fd (File number file_offset access) kept h = (kept number (eq-eqb number number refl) h.0, h.1)

-- a file that lacks both is dropped
without_unused-kept : (w : World) (number : ℕ) → IsKeptBut number w → IsKept (without_unused w number)
without_unused-kept w number s =
    let v : World = record w { files = fin.remove w.files number } in
    elim (is_named w number || is_open w number) as (λ b. (is_named w number || is_open w number) ≡ b → IsKept (cond b w v)) [
      | true ↦ λ is. record {
        few_names = s.few_names;
        few_open_files = s.few_open_files;
        small_stream1 = s.small_stream1;
        small_stream2 = s.small_stream2;
        small_files = s.small_files;
        small_total = s.small_total;
        good_names = s.good_names;
        held = s.held;
        named_once = s.named_once;
        good_open_files = s.good_open_files;
        low_numbers = s.low_numbers;
        used = λ n h. by_eq n number (λ e. ap (λ k. is_named w k || is_open w k) e ∙ is) (λ ne. s.used n ne h);
      }
      | false ↦ λ is.
          let unused = neither (is_named w number) (is_open w number) is in
          record {
            few_names = s.few_names;
            few_open_files = s.few_open_files;
            small_stream1 = s.small_stream1;
            small_stream2 = s.small_stream2;
            small_files = λ n content e. s.small_files n content (remove_cases w.files number n content e).1;
            small_total = omega (arith, total-remove w number, s.small_total);
            good_names = s.good_names;
            held = λ name n e. ap is_some (left w.files number n (λ k. false≢true (sym unused.0 ∙ named_by w name number (e ∙ ap (λ x. Some x) k)))) ∙ s.held name n e;
            named_once = s.named_once;
            good_open_files = λ fd open_file e. (
              (s.good_open_files fd open_file e).0,
              open_file_kept w v fd open_file (λ n of h. ap is_some (left w.files number n (λ k. false≢true (sym unused.1 ∙ open_by w fd open_file number e (ap (λ x. is_of x open_file) (sym k) ∙ of)))) ∙ h) (s.good_open_files fd open_file e).1,
            );
            used = λ n h. let old = remove_cases w.files number n _ (some_of _ h).1 in s.used n old.0 (is_some_of _ old.1);
            low_numbers = λ n h. s.low_numbers n (is_some_of _ (remove_cases w.files number n _ (some_of _ h).1).1);
          }
    ] refl

-- what holds but for any one number holds
sound_of_but : (w : World) → ((number : ℕ) → IsKeptBut number w) → IsKept w
sound_of_but w but =
    let s = but 0 in record {
      few_names = s.few_names;
      few_open_files = s.few_open_files;
      small_stream1 = s.small_stream1;
      small_stream2 = s.small_stream2;
      small_files = s.small_files;
      small_total = s.small_total;
      good_names = s.good_names;
      held = s.held;
      named_once = s.named_once;
      good_open_files = s.good_open_files;
      low_numbers = s.low_numbers;
      used = λ n h. (but (n + 1)).used n (omega arith) h;
    }

-- a descriptor goes, and only one file may lack it
cleared : (w : World) (fd : ℕ) (open_file : OpenFile) (number : ℕ) → IsKept w → fin.get w.open_files fd ≡ Some open_file → ((n : ℕ) → n ≢ number → is_of n open_file ≡ false) → IsKeptBut number (record w { open_files = fin.remove w.open_files fd })
cleared w fd open_file number s held apart = record {
  few_names = s.few_names;
  few_open_files = omega (arith, len_remove-le w.open_files fd, s.few_open_files);
  small_stream1 = s.small_stream1;
  small_stream2 = s.small_stream2;
  small_files = s.small_files;
  small_total = s.small_total;
  good_names = s.good_names;
  held = s.held;
  named_once = s.named_once;
  good_open_files = λ other there e. s.good_open_files other there (remove_cases w.open_files fd other there e).1;
  used = λ n ne h. or_cases (is_named w n) (is_open w n) (s.used n h)
      (λ named. or_left (is_named w n) _ named)
      (λ opened_by. or_right (is_named w n) _ (let by = open_file_of w n opened_by in
      open_by (record w { open_files = fin.remove w.open_files fd }) by.0 by.1 n
      (left w.open_files fd by.0 (λ k. false≢true (sym (apart n ne) ∙ ap (is_of n) (same_Some open_file by.1 (sym held ∙ ap (fin.get w.open_files) (sym k) ∙ by.2)) ∙ by.3)) ∙ by.2) by.3));
  low_numbers = s.low_numbers;
}

not_eqb : (a b : ℕ) → a ≢ b → eqb a b ≡ false
not_eqb a b ne = elim (eqb a b) as (λ t. eqb a b ≡ t → t ≡ false) [ true ↦ λ t. absurd (ne (eqb-true a b t)) | false ↦ λ _. refl ] refl

pub closed-kept : (w : World) (fd : ℕ) → IsKept w → IsKept (closed w fd).1
closed-kept w fd s = at_open_file (fin.get w.open_files fd) refl
  where
    at_open_file : (o : Option OpenFile) → fin.get w.open_files fd ≡ o → IsKept (closed_at w fd o).1
    at_open_file None e = s
    at_open_file (Some Input) e = sound_of_but _ (λ number. cleared w fd Input number s e (λ n ne. refl))
    at_open_file (Some Stream1) e = sound_of_but _ (λ number. cleared w fd Stream1 number s e (λ n ne. refl))
    at_open_file (Some Stream2) e = sound_of_but _ (λ number. cleared w fd Stream2 number s e (λ n ne. refl))
    at_open_file (Some (File number file_offset access)) e =
        without_unused-kept _ number (cleared w fd (File number file_offset access) number s e (λ n ne. by_eq number n (λ k. absurd (ne (sym k))) (λ k. not_eqb number n k)))

pub removed-kept : (w : World) (name : List ℕ) → IsKept w → IsKept (removed w name).1
removed-kept w name s = at_name (fin.get w.names name) refl
  where
    at_name : (o : Option ℕ) → fin.get w.names name ≡ o → IsKept (removed_at w name o).1
    at_name None e = s
    at_name (Some number) e = without_unused-kept _ number (record {
      few_names = omega (arith, len_unname-le w.names name, s.few_names);
      few_open_files = s.few_open_files;
      small_stream1 = s.small_stream1;
      small_stream2 = s.small_stream2;
      small_files = s.small_files;
      small_total = s.small_total;
      good_names = λ other n h. s.good_names other n (name_remove_cases w.names name other n h).1;
      held = λ other n h. s.held other n (name_remove_cases w.names name other n h).1;
      named_once = λ one other n g h. s.named_once one other n (name_remove_cases w.names name one n g).1 (name_remove_cases w.names name other n h).1;
      good_open_files = s.good_open_files;
      used = λ n ne h. or_cases (is_named w n) (is_open w n) (s.used n h)
          (λ named. or_left _ (is_open w n) (let by = name_of w n named in
          named_by (record w { names = fin.remove w.names name }) by.0 n (name_left w.names name by.0 (λ k. ne (same_Some n number (sym by.1 ∙ ap (fin.get w.names) k ∙ e))) ∙ by.1)))
          (λ opened_by. or_right _ (is_open w n) opened_by);
      low_numbers = s.low_numbers;
    })
