-- The world of lists that keep their rules keeps the rules of files.
use Rattle.std.proofs.Common.{◌≡◌, ℕ, ◌+◌, ◌<◌, ◌≤◌, Bool, true, false, cond, ◌||◌, eqb, eq-eqb, eqb-true, T, IsTrue, List, [], ◌∷◌, length, map, get_or, sum_by, Option, Some, None, IsSome, is_some, inl, inr, refl, sym, ap, subst, ◌∙◌, arith}
use Rattle.ddc_base.specs.Limits.{file_number_end}
use Rattle.std.specs.Prelude.{All}
use Rattle.std.specs.List.{AllByRecursion, IsDistinct, list_any}
use Rattle.std.specs.Ordering.{nat_cmp, eq_by_cmp, is_eq}
use Rattle.std.specs.declared.cmp.Ordering.{Ordering}
use Rattle.std.specs.Cmp.{IsTotalOrder, eq_by_cmp_equiv, nat_cmp_total, tied_itself, unsigned_tied}
use Rattle.std.specs.Cmp.Lexicographic.{nat_list_cmp_total}
use Rattle.std.specs.FinMap as fin
use Rattle.std.specs.FinMap.Entries.{below_all}
use Rattle.std.proofs.lemmas.Bool.{cases_lt, false≢true}
use Rattle.std.proofs.lemmas.List.Elements.{All-head, All-tail, All-map, All-nil, All-cons}
use Rattle.std.proofs.lemmas.List.Sums.{sum_by-cons}
use Rattle.std.proofs.lemmas.Option.{none-some, same_Some}
use Rattle.mem_files.specs.declared.open_file.OpenFile.{OpenFile}
use Rattle.mem_files.specs.declared.open_file.OpenFile.TheVariants.{File}
use Rattle.mem_files.specs.Names.{bytes_cmp}
use Rattle.mem_files.specs.World.{is_named, is_of, is_open}
use Rattle.mem_files.specs.Sound.{IsInLimits, IsWorldJoined, IsSound, IsOpenFileAt}
use Rattle.mem_files.specs.Outputs.{IsContent}
use Rattle.mem_files.specs.Lists.{ListedFile, FileLists, named, with_name, numbered_contents, world_of, IsHeldName, is_listed, is_used, AreOrdered, AreInRange, AreJoined}
use Rattle.mem_files.proofs.CellMaps.{len-from_entries}
use Rattle.mem_files.proofs.Directory.{equal, bytes_cmp-IsAntisymmetric}
use Rattle.mem_files.proofs.Entries.{some_of}
use Rattle.mem_files.proofs.ListWorlds.{size_of}
use Rattle.mem_files.proofs.Maps.{any_at, both, find_low}

-- the entry that is found
pub found_all : {K X : Type 0} {R : K → K → Ordering} → fin.IsAntisymmetric R → (P : K × X → Type 0) (es : List (K × X)) (q : K) (x : X) → All P es → fin.find R q es ≡ Some x → P (q, x)
found_all same P [] q x all is = absurd (none-some x is)
found_all {R = R} same P (e ∷ es) q x all is = elim (eq_by_cmp R q e.0) as (λ b. eq_by_cmp R q e.0 ≡ b → cond b (Some e.1) (fin.find R q es) ≡ Some x → P (q, x)) [
  | true ↦ λ tie here. subst P (λ i. (sym (same q e.0 (equal (R q e.0) tie)) i, same_Some e.1 x here i)) (All-head P e es all)
  | false ↦ λ _ later. found_all same P es q x (All-tail P e es all) later
] refl is

found_nat : {X : Type 0} (P : ℕ × X → Type 0) (es : List (ℕ × X)) (q : ℕ) (x : X) → All P es → fin.get (fin.from_entries {R = nat_cmp} es) q ≡ Some x → P (q, x)
found_nat P es q x all is = found_all fin.nat_cmp-IsAntisymmetric P es q x all (sym (fin.get-from_entries nat_cmp_total es q) ∙ is)

found_name : (P : List ℕ × ℕ → Type 0) (es : List (List ℕ × ℕ)) (q : List ℕ) (x : ℕ) → All P es → fin.get (fin.from_entries {R = bytes_cmp} es) q ≡ Some x → P (q, x)
found_name P es q x all is = found_all bytes_cmp-IsAntisymmetric P es q x all (sym (fin.get-from_entries nat_list_cmp_total es q) ∙ is)

-- entries whose keys rise are those of their map
pub entries_risen : {K X : Type 0} {R : K → K → Ordering} → IsTotalOrder R → fin.IsAntisymmetric R → (es : List (K × X)) → fin.is_sorted R es ≡ true → fin.entries (fin.from_entries {R = R} es) ≡ es
entries_risen {R = R} o same es rise =
    let sorted : T (fin.is_sorted R es) = subst T (sym rise) tt in
    ap fin.entries (fin.same_map o same (fin.from_entries es) (fin.from_sorted es) (λ q. fin.get-from_entries o es q ∙ sym (fin.get-from_sorted R es q sorted)))
    ∙ fin.entries-from_sorted R es sorted

-- descriptors that rise are few
few_risen : {X : Type 0} (n most : ℕ) (es : List (ℕ × X)) → T (fin.is_sorted nat_cmp es) → All (λ e. e.0 < most) es → n ≤ most → ((q : ℕ) → IsSome (fin.find nat_cmp q es) → n ≤ q) → n + length es ≤ most
few_risen n most [] sorted low fits from = omega arith
few_risen n most (e ∷ es) sorted low fits from =
    let parts = both (below_all nat_cmp e.0 es) (fin.is_sorted nat_cmp es) sorted in
    let least = from e.0 (ap (λ o. is_some (cond (is_eq o) (Some e.1) (fin.find nat_cmp e.0 es))) (tied_itself nat_cmp_total e.0)) in
    let first = All-head (λ e. e.0 < most) e es low in
    let rest = few_risen (e.0 + 1) most es parts.1 (All-tail (λ e. e.0 < most) e es low) (omega arith) (λ q held. past q e.0 es parts.0 held) in
    omega (arith, rest, least, first)
  where
    past : {X : Type 0} (q a : ℕ) (es : List (ℕ × X)) → T (below_all nat_cmp a es) → IsSome (fin.find nat_cmp q es) → a + 1 ≤ q
    past q a es below held = elim (cases_lt a q) as (λ _. a + 1 ≤ q) [
      | inl h ↦ omega arith
      | inr h ↦ absurd (false≢true (sym (ap is_some (find_low q a es h below)) ∙ held))
    ]

pub or_left : (a b : Bool) → a ≡ true → (a || b) ≡ true
or_left true b h = refl
or_left false b h = absurd (false≢true h)

pub or_right : (a b : Bool) → b ≡ true → (a || b) ≡ true
or_right true b h = refl
or_right false b h = h

pub or_cases : {P : Type 0} (a b : Bool) → (a || b) ≡ true → (a ≡ true → P) → (b ≡ true → P) → P
or_cases true b h left right = left refl
or_cases false b h left right = right h

pub chosen_some : {X : Type 0} (b : Bool) (x : X) (o : Option X) → IsSome o → IsSome (cond b (Some x) o)
chosen_some true x o h = refl
chosen_some false x o h = h

-- the number of a name is that of a file
pub name_held : (files : List ListedFile) (name : List ℕ) (number : ℕ) → fin.find bytes_cmp name (named files) ≡ Some number → IsSome (fin.find nat_cmp number (numbered_contents files))
name_held [] name number is = absurd (none-some number is)
name_held (f ∷ files) name number is = at f.name is (name_held files name number)
  where
    rest : IsSome (fin.find nat_cmp number (numbered_contents files)) → IsSome (fin.find nat_cmp number (numbered_contents (f ∷ files)))
    rest h = chosen_some (eq_by_cmp nat_cmp number f.number) f.content (fin.find nat_cmp number (numbered_contents files)) h

    at : (o : Option (List ℕ)) → fin.find bytes_cmp name (with_name o f.number (named files)) ≡ Some number → (fin.find bytes_cmp name (named files) ≡ Some number → IsSome (fin.find nat_cmp number (numbered_contents files))) → IsSome (fin.find nat_cmp number (numbered_contents (f ∷ files)))
    at None is next = rest (next is)
    at (Some n) is next = elim (eq_by_cmp bytes_cmp name n) as (λ b. cond b (Some f.number) (fin.find bytes_cmp name (named files)) ≡ Some number → IsSome (fin.find nat_cmp number (numbered_contents (f ∷ files)))) [
      | true ↦ λ here. ap (λ b. is_some (cond b (Some f.content) (fin.find nat_cmp number (numbered_contents files)))) (unsigned_tied number f.number ∙ eq-eqb number f.number (sym (same_Some f.number number here)))
      | false ↦ λ later. rest (next later)
    ] is

-- a number has one name
pub one_name : (files : List ListedFile) → T (fin.is_sorted nat_cmp (numbered_contents files)) → (name other : List ℕ) (number : ℕ) → fin.find bytes_cmp name (named files) ≡ Some number → fin.find bytes_cmp other (named files) ≡ Some number → name ≡ other
one_name [] sorted name other number is also = absurd (none-some number is)
one_name (f ∷ files) sorted name other number is also = at f.name is also (one_name files parts.1 name other number)
  where
    parts : T (below_all nat_cmp f.number (numbered_contents files)) × T (fin.is_sorted nat_cmp (numbered_contents files))
    parts = both (below_all nat_cmp f.number (numbered_contents files)) (fin.is_sorted nat_cmp (numbered_contents files)) sorted

    apart : (n : List ℕ) → fin.find bytes_cmp n (named files) ≡ Some number → f.number ≡ number → ⊥
    apart n later same = false≢true (sym (ap is_some (find_low number f.number (numbered_contents files) (omega arith) parts.0)) ∙ name_held files n number later)

    at : (o : Option (List ℕ)) → fin.find bytes_cmp name (with_name o f.number (named files)) ≡ Some number → fin.find bytes_cmp other (with_name o f.number (named files)) ≡ Some number
        → (fin.find bytes_cmp name (named files) ≡ Some number → fin.find bytes_cmp other (named files) ≡ Some number → name ≡ other) → name ≡ other
    at None is also next = next is also
    at (Some n) is also next =
        elim (eq_by_cmp bytes_cmp name n) as (λ a. eq_by_cmp bytes_cmp name n ≡ a → cond a (Some f.number) (fin.find bytes_cmp name (named files)) ≡ Some number → name ≡ other) [
          | true ↦ λ tie here. elim (eq_by_cmp bytes_cmp other n) as (λ b. eq_by_cmp bytes_cmp other n ≡ b → cond b (Some f.number) (fin.find bytes_cmp other (named files)) ≡ Some number → name ≡ other) [
            | true ↦ λ also_tie _. bytes_cmp-IsAntisymmetric name n (equal (bytes_cmp name n) tie) ∙ sym (bytes_cmp-IsAntisymmetric other n (equal (bytes_cmp other n) also_tie))
            | false ↦ λ _ later. absurd (apart other later (same_Some f.number number here))
          ] refl also
          | false ↦ λ _ later. elim (eq_by_cmp bytes_cmp other n) as (λ b. cond b (Some f.number) (fin.find bytes_cmp other (named files)) ≡ Some number → name ≡ other) [
            | true ↦ λ here. absurd (apart name later (same_Some f.number number here))
            | false ↦ λ also_later. next later also_later
          ] also
        ] refl is

-- a listed number has a file
pub number_held : (files : List ListedFile) (number : ℕ) → list_any (λ file. eqb file.number number) files ≡ true → IsSome (fin.find nat_cmp number (numbered_contents files))
number_held [] number is = absurd (false≢true is)
number_held (f ∷ files) number is = or_cases (eqb f.number number) (list_any (λ file. eqb file.number number) files) is
    (λ here. ap (λ b. is_some (cond b (Some f.content) (fin.find nat_cmp number (numbered_contents files)))) (unsigned_tied number f.number ∙ eq-eqb number f.number (sym (eqb-true f.number number here))))
    (λ later. chosen_some (eq_by_cmp nat_cmp number f.number) f.content (fin.find nat_cmp number (numbered_contents files)) (number_held files number later))

all_keys : (P : List ℕ → Type 0) (es : List (List ℕ × ℕ)) → AllByRecursion P (map (λ e. e.0) es) → All (λ e. P e.0) es
all_keys P [] all = All-nil (λ e. P e.0)
all_keys P (e ∷ es) all = All-cons (λ e. P e.0) e es all.0 (all_keys P es all.1)

-- the file of a number, which is found under its name
pub record FileAt (files : List ListedFile) (Q : ListedFile → Type 0) (number : ℕ) (content : List ℕ) : Type 0 where
  pub file : ListedFile
  pub numbered : file.number ≡ number
  pub filled : file.content ≡ content
  pub called : (name : List ℕ) → file.name ≡ Some name → fin.find bytes_cmp name (named files) ≡ Some number
  pub holds : Q file

pub file_at : (files : List ListedFile) (Q : ListedFile → Type 0) → IsDistinct (eq_by_cmp bytes_cmp) (map (λ e. e.0) (named files)) → All Q files → (number : ℕ) (content : List ℕ) → fin.find nat_cmp number (numbered_contents files) ≡ Some content → FileAt files Q number content
unfolding IsDistinct
file_at [] Q distinct all number content is = absurd (none-some content is)
file_at (f ∷ files) Q distinct all number content is =
    elim (eq_by_cmp nat_cmp number f.number) as (λ b. eq_by_cmp nat_cmp number f.number ≡ b → cond b (Some f.content) (fin.find nat_cmp number (numbered_contents files)) ≡ Some content → FileAt (f ∷ files) Q number content) [
      | true ↦ λ tie here.
          let same : f.number ≡ number = sym (eqb-true number f.number (sym (unsigned_tied number f.number) ∙ tie)) in
          record { file = f; numbered = same; filled = same_Some f.content content here; called = λ name is. first f.name name is ∙ ap (λ n. Some n) same; holds = All-head Q f files all }
      | false ↦ λ _ later. following f.name refl distinct (λ less. file_at files Q less (All-tail Q f files all) number content later)
    ] refl is
  where
    first : (o : Option (List ℕ)) (name : List ℕ) → o ≡ Some name → fin.find bytes_cmp name (with_name o f.number (named files)) ≡ Some f.number
    first None name is = absurd (none-some name is)
    first (Some n) name is =
        ap (λ q. fin.find bytes_cmp q ((n, f.number) ∷ named files)) (sym (same_Some n name is))
        ∙ ap (λ r. cond (is_eq r) (Some f.number) (fin.find bytes_cmp n (named files))) (tied_itself nat_list_cmp_total n)

    following : (o : Option (List ℕ)) → f.name ≡ o → IsDistinct (eq_by_cmp bytes_cmp) (map (λ e. e.0) (with_name o f.number (named files)))
        → (IsDistinct (eq_by_cmp bytes_cmp) (map (λ e. e.0) (named files)) → FileAt files Q number content)
        → FileAt (f ∷ files) Q number content
    following None e distinct next = let r = next distinct in record {
      file = r.file;
      numbered = r.numbered;
      filled = r.filled;
      called = λ name is. subst (λ o. fin.find bytes_cmp name (with_name o f.number (named files)) ≡ Some number) (sym e) (r.called name is);
      holds = r.holds;
    }
    following (Some n) e distinct next = let r = next distinct.1 in record {
      file = r.file;
      numbered = r.numbered;
      filled = r.filled;
      called = λ name is.
          let apart : eq_by_cmp bytes_cmp name n ≡ false = (eq_by_cmp_equiv nat_list_cmp_total).symm name n
          ∙ found_all bytes_cmp-IsAntisymmetric (λ e. eq_by_cmp bytes_cmp n e.0 ≡ false) (named files) name number (all_keys (λ k. eq_by_cmp bytes_cmp n k ≡ false) (named files) distinct.0) (r.called name is) in
          subst (λ o. fin.find bytes_cmp name (with_name o f.number (named files)) ≡ Some number) (sym e) (ap (λ b. cond b (Some f.number) (fin.find bytes_cmp name (named files))) apart ∙ r.called name is);
      holds = r.holds;
    }

contents_all : (P : ℕ × List ℕ → Type 0) (files : List ListedFile) → All (λ file. P (file.number, file.content)) files → All P (numbered_contents files)
contents_all P files all = All-map P (λ (file : ListedFile). (file.number, file.content)) files all

-- sums over lists and over maps
pub values_sum : (files : List ListedFile) → sum_by length (map (λ e. e.1) (numbered_contents files)) ≡ sum_by size_of files
values_sum [] = refl
values_sum (f ∷ files) = sum_by-cons length f.content (map (λ e. e.1) (numbered_contents files)) ∙ ap (λ n. length f.content + n) (values_sum files) ∙ sym (sum_by-cons size_of f files)

pub two_sum : (streams : List (List ℕ)) → length streams ≡ 2 → sum_by length streams ≡ length (get_or streams 0 []) + length (get_or streams 1 [])
two_sum [] two = absurd (omega arith)
two_sum (a ∷ []) two = absurd (omega arith)
two_sum (a ∷ (b ∷ [])) two = omega (arith, sum_by-cons length a (b ∷ []), sum_by-cons length b [])
two_sum (a ∷ (b ∷ (c ∷ more))) two = absurd (omega arith)

pub any_value : (number : ℕ) (open_files : List (ℕ × OpenFile)) → list_any (is_of number) (map (λ e. e.1) open_files) ≡ list_any (λ e. is_of number e.1) open_files
any_value number [] = refl
any_value number (e ∷ open_files) = ap (λ b. is_of number e.1 || b) (any_value number open_files)

module _ (lists : FileLists) (order : AreOrdered lists) (range : AreInRange lists) where
  files_sorted : T (fin.is_sorted nat_cmp (numbered_contents lists.files))
  files_sorted = subst T (sym order.files_rise) tt

  open_files_sorted : T (fin.is_sorted nat_cmp lists.open_files)
  open_files_sorted = subst T (sym order.open_files_rise) tt

  open_files_few : length lists.open_files ≤ 1024
  open_files_few = omega (arith, few_risen 0 1024 lists.open_files open_files_sorted range.low_open_files (omega arith) (λ q held. omega arith))

  pub lists-in_limits : IsInLimits (world_of lists)
  lists-in_limits = record {
    few_names = omega (arith, len-from_entries nat_list_cmp_total (named lists.files), range.few_names);
    few_open_files = omega (arith, len-from_entries nat_cmp_total lists.open_files, open_files_few);
    good_names = λ name number is. (found_name (λ e. IsHeldName e.0) (named lists.files) name number range.good_names is).0;
    name_bytes = λ name number is. (found_name (λ e. IsHeldName e.0) (named lists.files) name number range.good_names is).1;
    low_numbers = λ number held. let found = some_of (fin.get (world_of lists).files number) held in
        found_nat (λ e. e.0 < file_number_end) (numbered_contents lists.files) number found.0 (contents_all (λ e. e.0 < file_number_end) lists.files range.low_numbers) found.1;
    file_bytes = λ number content is. (found_nat (λ e. IsContent e.1) (numbered_contents lists.files) number content (contents_all (λ e. IsContent e.1) lists.files range.good_files) is).bytes;
    small_files = λ number content is. (found_nat (λ e. IsContent e.1) (numbered_contents lists.files) number content (contents_all (λ e. IsContent e.1) lists.files range.good_files) is).small;
    stream1_bytes = (range.good_streams 0 [] (omega (arith, order.two_streams))).bytes;
    stream2_bytes = (range.good_streams 1 [] (omega (arith, order.two_streams))).bytes;
    small_stream1 = (range.good_streams 0 [] (omega (arith, order.two_streams))).small;
    small_stream2 = (range.good_streams 1 [] (omega (arith, order.two_streams))).small;
    small_total =
        omega (
          arith,
          range.small_total,
          two_sum lists.streams order.two_streams,
          values_sum lists.files,
          ap (λ es. sum_by length (map (λ e. e.1) es)) (entries_risen nat_cmp_total fin.nat_cmp-IsAntisymmetric (numbered_contents lists.files) order.files_rise),
        );
    low_open_files = λ fd open_file is. found_nat (λ e. e.0 < 1024) lists.open_files fd open_file range.low_open_files is;
    good_open_files = λ fd open_file is. found_nat (λ e. IsOpenFileAt e.0 e.1) lists.open_files fd open_file range.good_open_files is;
  }

  module _ (refer : AreJoined lists) where
    number_at : (number : ℕ) → IsSome (fin.find nat_cmp number (numbered_contents lists.files)) → IsSome (fin.get (world_of lists).files number)
    number_at number held = ap is_some (fin.get-from_entries nat_cmp_total (numbered_contents lists.files) number) ∙ held

    name_at : (name : List ℕ) (number : ℕ) → fin.get (world_of lists).names name ≡ Some number → fin.find bytes_cmp name (named lists.files) ≡ Some number
    name_at name number is = sym (fin.get-from_entries nat_list_cmp_total (named lists.files) name) ∙ is

    used_at : (number : ℕ) (content : List ℕ) → FileAt lists.files (λ file. IsTrue (is_used lists.open_files file)) number content → (is_named (world_of lists) number || is_open (world_of lists) number) ≡ true
    used_at number content at = or_cases (is_some at.file.name) (list_any (λ e. is_of at.file.number e.1) lists.open_files) at.holds
        (λ titled. let name = some_of at.file.name titled in
        or_left (is_named (world_of lists) number) (is_open (world_of lists) number)
        (any_at nat_list_cmp_total (λ held. eqb held number) (world_of lists).names name.0 number (fin.get-from_entries nat_list_cmp_total (named lists.files) name.0 ∙ at.called name.0 name.1) (eq-eqb number number refl)))
        (λ opened. or_right (is_named (world_of lists) number) (is_open (world_of lists) number)
        (ap (λ es. list_any (is_of number) (map (λ e. e.1) es)) (entries_risen nat_cmp_total fin.nat_cmp-IsAntisymmetric lists.open_files order.open_files_rise)
        ∙ any_value number lists.open_files ∙ sym (ap (λ n. list_any (λ e. is_of n e.1) lists.open_files) at.numbered) ∙ opened))

    lists-joined : IsWorldJoined (world_of lists)
    lists-joined = record {
      held = λ name number is. number_at number (name_held lists.files name number (name_at name number is));
      named_once = λ name other number is also. one_name lists.files files_sorted name other number (name_at name number is) (name_at other number also);
      open_held = λ fd number file_offset access is.
          number_at number (number_held lists.files number (found_nat (λ e. IsTrue (is_listed lists.files e.1)) lists.open_files fd (File number file_offset access) refer.held is));
      used = λ number held.
          let found = some_of (fin.get (world_of lists).files number) held in
          used_at number found.0 (file_at lists.files (λ file. IsTrue (is_used lists.open_files file)) range.distinct refer.used number found.0 (sym (fin.get-from_entries nat_cmp_total (numbered_contents lists.files) number) ∙ found.1));
    }

    pub lists-sound : IsSound (world_of lists)
    lists-sound = record { within = lists-in_limits; joined = lists-joined }
