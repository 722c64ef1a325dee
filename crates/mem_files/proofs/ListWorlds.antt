-- The world of lists, file by file and descriptor by descriptor.
use Rattle.std.proofs.Common.{◌≡◌, ℕ, zero, suc, ◌+◌, ◌<◌, ◌≤◌, true, false, cond, T, List, [], ◌∷◌, ◌++◌, length, map, take, drop, get_or, sum_by, Option, Some, None, unwrap_or, refl, sym, ap, subst, ◌∙◌, arith, append-nil}
use Rattle.std.specs.Prelude.{All, IfSome}
use Rattle.std.specs.List.{AllByRecursion, IsDistinct}
use Rattle.std.specs.Ordering.{nat_cmp, eq_by_cmp}
use Rattle.std.specs.Cmp.{nat_cmp_total, eq_by_cmp_equiv}
use Rattle.std.specs.Cmp.Lexicographic.{nat_list_cmp_total}
use Rattle.std.specs.FinMap as fin
use Rattle.std.specs.FinMap.Entries.{below_all}
use Rattle.std.proofs.lemmas.List.{map-append, length-map, take_more, drop_more}
use Rattle.std.proofs.lemmas.List.Elements.{All-head, All-tail}
use Rattle.std.proofs.lemmas.List.Sums.{sum_by-append, sum_by-cons}
use Rattle.mem_files.specs.declared.view.FileView.{FileView}
use Rattle.mem_files.specs.Names.{bytes_cmp}
use Rattle.mem_files.specs.World.{World, total, content_of}
use Rattle.mem_files.specs.Lists.{ListedFile, listed, named, with_name, numbered_contents, world_of}
use Rattle.mem_files.specs.Inside.Listing.{with_title, with_listed}
use Rattle.mem_files.proofs.Directory.{bytes_cmp-IsAntisymmetric}
use Rattle.mem_files.proofs.Maps.{both, head_above, rest_above, find_apart}
use Rattle.mem_files.proofs.Totals.{total-insert}

-- a list at a place
pub at_index : {A : Type 0} (xs : List A) (i : ℕ) (d : A) → i < length xs → take i xs ++ get_or xs i d ∷ drop (i + 1) xs ≡ xs
at_index xs i d h = ap (λ ys. take i xs ++ ys) (sym (drop_more xs i d h)) ∙ whole xs i
  where
    whole : {A : Type 0} (xs : List A) (i : ℕ) → take i xs ++ drop i xs ≡ xs
    whole [] zero = refl
    whole [] (suc i) = refl
    whole (x ∷ xs) zero = refl
    whole (x ∷ xs) (suc i) = ap (λ ys. x ∷ ys) (whole xs i)

-- numbers that rise are no keys before they come
pub above : {X : Type 0} (a k : ℕ) (v : X) (xs ys : List (ℕ × X)) → T (below_all nat_cmp a (xs ++ (k, v) ∷ ys)) → a < k
above a k v [] ys below = head_above a (k, v) ys below
above a k v (e ∷ xs) ys below = above a k v xs ys (rest_above a e (xs ++ (k, v) ∷ ys) below)

pub fresh : {X : Type 0} (k : ℕ) (v : X) (xs ys : List (ℕ × X)) → T (fin.is_sorted nat_cmp (xs ++ (k, v) ∷ ys)) → fin.find nat_cmp k xs ≡ None
fresh k v [] ys sorted = refl
fresh k v (e ∷ xs) ys sorted =
    let parts = both (below_all nat_cmp e.0 (xs ++ (k, v) ∷ ys)) (fin.is_sorted nat_cmp (xs ++ (k, v) ∷ ys)) sorted in
    let less = above e.0 k v xs ys parts.0 in
    find_apart k e xs (omega arith) ∙ fresh k v xs ys parts.1

pub pushed : {X : Type 0} (k : ℕ) (v : X) (xs ys : List (ℕ × X)) → T (fin.is_sorted nat_cmp (xs ++ (k, v) ∷ ys)) → fin.from_entries {R = nat_cmp} (xs ++ (k, v) ∷ []) ≡ fin.insert (fin.from_entries xs) k v
pushed k v xs ys sorted = fin.from_entries_push nat_cmp_total fin.nat_cmp-IsAntisymmetric xs k v (fresh k v xs ys sorted)

-- a name that stands once is no key before it comes
pub later : (P : List ℕ → Type 0) (xs ys : List ListedFile) (f : ListedFile) (name : List ℕ) → f.name ≡ Some name → AllByRecursion P (map (λ e. e.0) (named (xs ++ f ∷ ys))) → P name
later P [] ys f name is all = (subst (λ o. AllByRecursion P (map (λ e. e.0) (with_name o f.number (named ys)))) is all).0
later P (x ∷ xs) ys f name is all = at x.name all (later P xs ys f name is)
  where
    at : (o : Option (List ℕ)) → AllByRecursion P (map (λ e. e.0) (with_name o x.number (named (xs ++ f ∷ ys)))) → (AllByRecursion P (map (λ e. e.0) (named (xs ++ f ∷ ys))) → P name) → P name
    at None all next = next all
    at (Some n) all next = next all.1

pub fresh_name : (xs ys : List ListedFile) (f : ListedFile) (name : List ℕ) → f.name ≡ Some name → IsDistinct (eq_by_cmp bytes_cmp) (map (λ e. e.0) (named (xs ++ f ∷ ys))) → fin.find bytes_cmp name (named xs) ≡ None
unfolding IsDistinct
fresh_name [] ys f name is distinct = refl
fresh_name (x ∷ xs) ys f name is distinct = at x.name distinct (fresh_name xs ys f name is)
  where
    at : (o : Option (List ℕ)) → IsDistinct (eq_by_cmp bytes_cmp) (map (λ e. e.0) (with_name o x.number (named (xs ++ f ∷ ys))))
        → (IsDistinct (eq_by_cmp bytes_cmp) (map (λ e. e.0) (named (xs ++ f ∷ ys))) → fin.find bytes_cmp name (named xs) ≡ None) → fin.find bytes_cmp name (with_name o x.number (named xs)) ≡ None
    at None distinct next = next distinct
    at (Some n) distinct next =
        ap (λ b. cond b (Some x.number) (fin.find bytes_cmp name (named xs))) ((eq_by_cmp_equiv nat_list_cmp_total).symm name n ∙ later (λ y. eq_by_cmp bytes_cmp n y ≡ false) xs ys f name is distinct.0)
        ∙ next distinct.1

-- the names with a file more
named_more : (xs : List ListedFile) (f : ListedFile) → named (xs ++ f ∷ []) ≡ named xs ++ with_name f.name f.number []
named_more [] f = refl
named_more (x ∷ xs) f = at x.name (named_more xs f)
  where
    at : (o : Option (List ℕ)) → named (xs ++ f ∷ []) ≡ named xs ++ with_name f.name f.number [] → with_name o x.number (named (xs ++ f ∷ [])) ≡ with_name o x.number (named xs) ++ with_name f.name f.number []
    at None e = e
    at (Some n) e = ap (λ es. (n, x.number) ∷ es) e

names_pushed : (xs : List ListedFile) (o : Option (List ℕ)) (number : ℕ) → ((name : List ℕ) → o ≡ Some name → fin.find bytes_cmp name (named xs) ≡ None)
    → fin.from_entries {R = bytes_cmp} (named xs ++ with_name o number []) ≡ with_title (fin.from_entries (named xs)) o number
names_pushed xs None number absent = ap (λ es. fin.from_entries {R = bytes_cmp} es) (append-nil (named xs))
names_pushed xs (Some name) number absent = fin.from_entries_push nat_list_cmp_total bytes_cmp-IsAntisymmetric (named xs) name number (absent name refl)

abbrev pub of_files : List ListedFile → World
of_files files = world_of (record { files = files; open_files = []; streams = [] })

-- what is known of a file before it is put
module _ (xs ys : List ListedFile) (f : ListedFile) (rise : fin.is_sorted nat_cmp (numbered_contents (xs ++ f ∷ ys)) ≡ true) (distinct : IsDistinct (eq_by_cmp bytes_cmp) (map (λ e. e.0) (named (xs ++ f ∷ ys)))) where
  risen : T (fin.is_sorted nat_cmp (numbered_contents xs ++ (f.number, f.content) ∷ numbered_contents ys))
  risen = subst (λ (es : List (ℕ × List ℕ)). T (fin.is_sorted nat_cmp es)) (map-append (λ (file : ListedFile). (file.number, file.content)) xs (f ∷ ys)) (subst T (sym rise) tt)

  pub unused_number : fin.get (of_files xs).files f.number ≡ None
  unused_number = fin.get-from_entries nat_cmp_total (numbered_contents xs) f.number ∙ fresh f.number f.content (numbered_contents xs) (numbered_contents ys) risen

  pub absent_name : (name : List ℕ) → f.name ≡ Some name → fin.get (of_files xs).names name ≡ None
  absent_name name is = fin.get-from_entries nat_list_cmp_total (named xs) name ∙ fresh_name xs ys f name is distinct

  pub put_world : with_listed (of_files xs) f ≡ of_files (xs ++ f ∷ [])
  put_world = λ i. record {
    names = sym (ap (λ es. fin.from_entries {R = bytes_cmp} es) (named_more xs f) ∙ names_pushed xs f.name f.number (λ name is. fresh_name xs ys f name is distinct)) i;
    files = sym (ap (λ es. fin.from_entries {R = nat_cmp} es) (map-append (λ (file : ListedFile). (file.number, file.content)) xs (f ∷ [])) ∙ pushed f.number f.content (numbered_contents xs) (numbered_contents ys) risen) i;
    open_files = fin.empty;
    stream1 = [];
    stream2 = [];
  }

  pub put_total : (n : ℕ) → total (of_files xs) ≡ n → total (of_files (xs ++ f ∷ [])) ≡ n + length f.content
  put_total n is =
      let empty : length (content_of (of_files xs) f.number) ≡ 0 = ap (λ o. length (unwrap_or o [])) unused_number in
      ap total (sym put_world) ∙ omega (arith, total-insert (of_files xs) f.number f.content, empty, is)

-- what holds of all names holds of a file's
named_all : (P : List ℕ × ℕ → Type 0) (xs ys : List ListedFile) (f : ListedFile) (name : List ℕ) → f.name ≡ Some name → All P (named (xs ++ f ∷ ys)) → P (name, f.number)
named_all P [] ys f name is all = All-head P (name, f.number) (named ys) (subst (λ o. All P (with_name o f.number (named ys))) is all)
named_all P (x ∷ xs) ys f name is all = at x.name all (named_all P xs ys f name is)
  where
    at : (o : Option (List ℕ)) → All P (with_name o x.number (named (xs ++ f ∷ ys))) → (All P (named (xs ++ f ∷ ys)) → P (name, f.number)) → P (name, f.number)
    at None all next = next all
    at (Some n) all next = next (All-tail P (n, x.number) (named (xs ++ f ∷ ys)) all)

pub if_some : {A : Type 0} (P : A → Type 0) (o : Option A) → ((x : A) → o ≡ Some x → P x) → IfSome o P
if_some P None all = tt
if_some P (Some x) all = all x refl

get_or-listed : (views : List FileView) (i : ℕ) (d : FileView) → get_or (map listed views) i (listed d) ≡ listed (get_or views i d)
get_or-listed [] i d = refl
get_or-listed (v ∷ views) zero d = refl
get_or-listed (v ∷ views) (suc i) d = get_or-listed views i d

abbrev pub size_of : ListedFile → ℕ
size_of file = length file.content

-- the file at a place of a list
module _ (views : List FileView) (i : ℕ) (d : FileView) (inside : i < length views) where
  abbrev all : List ListedFile
  all = map listed views

  abbrev next : ListedFile
  next = listed (get_or views i d)

  known : i < length all
  known = omega (arith, length-map views listed)

  split : take i all ++ next ∷ drop (i + 1) all ≡ all
  split = ap (λ f. take i all ++ f ∷ drop (i + 1) all) (sym (get_or-listed views i d)) ∙ at_index all i (listed d) known

  more : take (i + 1) all ≡ take i all ++ next ∷ []
  more = take_more all i (listed d) known ∙ ap (λ f. take i all ++ f ∷ []) (get_or-listed views i d)

  pub next_holds : (P : ListedFile → Type 0) → All P (map listed views) → P (listed (get_or views i d))
  next_holds P holds = subst P (get_or-listed views i d) (holds i (listed d) known)

  pub next_named : (P : List ℕ × ℕ → Type 0) → All P (named (map listed views)) → (name : List ℕ) → (listed (get_or views i d)).name ≡ Some name → P (name, (get_or views i d).number)
  next_named P holds name is = named_all P (take i all) (drop (i + 1) all) next name is (subst (λ l. All P (named l)) (sym split) holds)

  pub next_size : sum_by size_of (take i (map listed views)) + length (listed (get_or views i d)).content ≤ sum_by size_of (map listed views)
  next_size = omega (arith, ap (sum_by size_of) split, sum_by-append size_of (take i all) (next ∷ drop (i + 1) all), sum_by-cons size_of next (drop (i + 1) all))

  pub next_sum : sum_by size_of (take (i + 1) (map listed views)) ≡ sum_by size_of (take i (map listed views)) + length (listed (get_or views i d)).content
  next_sum = ap (sum_by size_of) more ∙ sum_by-append size_of (take i all) (next ∷ []) ∙ ap (λ n. sum_by size_of (take i all) + n) (sum_by-cons size_of next [] ∙ zero_more (size_of next))
    where
      zero_more : (n : ℕ) → n + 0 ≡ n
      zero_more n = omega arith

  module _ (rise : fin.is_sorted nat_cmp (numbered_contents (map listed views)) ≡ true) (distinct : IsDistinct (eq_by_cmp bytes_cmp) (map (λ e. e.0) (named (map listed views)))) where
    split_rise : fin.is_sorted nat_cmp (numbered_contents (take i all ++ next ∷ drop (i + 1) all)) ≡ true
    split_rise = ap (λ l. fin.is_sorted nat_cmp (numbered_contents l)) split ∙ rise

    split_distinct : IsDistinct (eq_by_cmp bytes_cmp) (map (λ e. e.0) (named (take i all ++ next ∷ drop (i + 1) all)))
    split_distinct = subst (λ l. IsDistinct (eq_by_cmp bytes_cmp) (map (λ e. e.0) (named l))) (sym split) distinct

    pub next_unused : fin.get (of_files (take i (map listed views))).files (get_or views i d).number ≡ None
    next_unused = unused_number (take i all) (drop (i + 1) all) next split_rise split_distinct

    pub next_absent : (name : List ℕ) → (listed (get_or views i d)).name ≡ Some name → fin.get (of_files (take i (map listed views))).names name ≡ None
    next_absent = absent_name (take i all) (drop (i + 1) all) next split_rise split_distinct

    pub next_world : with_listed (of_files (take i (map listed views))) (listed (get_or views i d)) ≡ of_files (take (i + 1) (map listed views))
    next_world = put_world (take i all) (drop (i + 1) all) next split_rise split_distinct ∙ ap of_files (sym more)

    pub next_total : (n : ℕ) → total (of_files (take i (map listed views))) ≡ n → total (of_files (take (i + 1) (map listed views))) ≡ n + length (listed (get_or views i d)).content
    next_total n is = ap (λ l. total (of_files l)) more ∙ put_total (take i all) (drop (i + 1) all) next split_rise split_distinct n is

-- the descriptor at a place of a list
module _ {X : Type 0} (open_files : List (ℕ × X)) (i : ℕ) (d : ℕ × X) (inside : i < length open_files) (rise : fin.is_sorted nat_cmp open_files ≡ true) where
  open_files_split : T (fin.is_sorted nat_cmp (take i open_files ++ get_or open_files i d ∷ drop (i + 1) open_files))
  open_files_split = subst (λ (es : List (ℕ × X)). T (fin.is_sorted nat_cmp es)) (sym (at_index open_files i d inside)) (subst T (sym rise) tt)

  pub next_fresh : fin.get (fin.from_entries {R = nat_cmp} (take i open_files)) (get_or open_files i d).0 ≡ None
  next_fresh = fin.get-from_entries nat_cmp_total (take i open_files) (get_or open_files i d).0 ∙ fresh (get_or open_files i d).0 (get_or open_files i d).1 (take i open_files) (drop (i + 1) open_files) open_files_split

  pub next_pushed : fin.insert (fin.from_entries (take i open_files)) (get_or open_files i d).0 (get_or open_files i d).1 ≡ fin.from_entries {R = nat_cmp} (take (i + 1) open_files)
  next_pushed =
      sym (pushed (get_or open_files i d).0 (get_or open_files i d).1 (take i open_files) (drop (i + 1) open_files) open_files_split)
      ∙ ap (λ (es : List (ℕ × X)). fin.from_entries {R = nat_cmp} es) (sym (take_more open_files i d inside))
