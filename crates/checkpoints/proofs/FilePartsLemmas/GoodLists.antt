-- The lists of files that keep their rules keep the rules of lists.
use Rattle.std.proofs.Common.{◌≡◌, ℕ, ◌+◌, ◌<◌, Bool, true, false, cond, ◌||◌, eqb, eqb-true, eq-eqb, T, IsTrue, List, [], ◌∷◌, length, map, find, sum_by, Option, Some, None, IsSome, is_some, option_map, refl, sym, ap, ◌∙◌, arith}
use Rattle.ddc_base.specs.Limits.{file_number_end}
use Rattle.std.specs.Prelude.{All, IfSome}
use Rattle.std.specs.List.{list_any, AllByRecursion, IsDistinct}
use Rattle.std.specs.Ordering.{nat_cmp, eq_by_cmp}
use Rattle.std.specs.Cmp.{unsigned_tied}
use Rattle.std.specs.Cmp.Lexicographic.{nat_list_cmp_total}
use Rattle.std.specs.FinMap as fin
use Rattle.std.specs.FinMap.Entries.{below_all}
use Rattle.std.proofs.lemmas.Bool.{false≢true}
use Rattle.std.proofs.lemmas.Option.{same_Some}
use Rattle.std.proofs.lemmas.List.Elements.{All-cons, All-nil, All-head, All-tail, All-map}
use Rattle.mem_files.specs.declared.open_file.OpenFile.{OpenFile}
use Rattle.mem_files.specs.declared.open_file.OpenFile.TheVariants.{Input, Stream1, Stream2, File}
use Rattle.mem_files.specs.Names.{bytes_cmp}
use Rattle.mem_files.specs.World.{World, is_named, is_of, is_open}
use Rattle.mem_files.specs.Sound.{IsSound}
use Rattle.mem_files.specs.Outputs.{IsContent}
use Rattle.mem_files.specs.Lists.{ListedFile, named, with_name, name_of_file, listed_file, lists_of, is_listed, is_used, AreOrdered, AreInRange, AreJoined}
use Rattle.mem_files.proofs.Directory.{equal, bytes_cmp-IsAntisymmetric}
use Rattle.mem_files.proofs.ListRules.{any_value, or_cases, or_left, or_right, two_sum, values_sum}
use Rattle.mem_files.proofs.Maps.{both, find_apart, find_here, head_above, rest_above}
use Rattle.mem_files.proofs.Shown.{is_some-found}
use Rattle.checkpoints.proofs.FilePartsLemmas.SameWorld.{contents_listed, names_right, names_same, right_name}

is_true : (b : Bool) → T b → b ≡ true
is_true true h = refl
is_true false h = absurd h

-- entries in order
all_above : {X : Type 0} (a : ℕ) (es : List (ℕ × X)) → T (below_all nat_cmp a es) → All (λ e. a < e.0) es
all_above a [] below = All-nil (λ e. a < e.0)
all_above a (e ∷ es) below = All-cons (λ e. a < e.0) e es (head_above a e es below) (all_above a es (rest_above a e es below))

all_found : {X : Type 0} (es : List (ℕ × X)) → T (fin.is_sorted nat_cmp es) → All (λ e. fin.find nat_cmp e.0 es ≡ Some e.1) es
all_found [] sorted = All-nil (λ e. fin.find nat_cmp e.0 [] ≡ Some e.1)
all_found (e ∷ es) sorted =
    let parts = both (below_all nat_cmp e.0 es) (fin.is_sorted nat_cmp es) sorted in
    let rest = all_found es parts.1 in
    let over = all_above e.0 es parts.0 in
    All-cons (λ f. fin.find nat_cmp f.0 (e ∷ es) ≡ Some f.1) e es (find_here e.0 e es refl) (λ k d inside. let more = over k d inside in find_apart _ e es (omega arith) ∙ rest k d inside)

all_got : {X : Type 0} (m : fin.FinMap nat_cmp X) → All (λ e. fin.get m e.0 ≡ Some e.1) (fin.entries m)
all_got m k d inside = fin.get-entries m _ ∙ all_found (fin.entries m) (fin.entries_sorted m) k d inside

by_recursion : (P : List ℕ → Type 0) (es : List (List ℕ × ℕ)) → All (λ e. P e.0) es → AllByRecursion P (map (λ e. e.0) es)
by_recursion P [] all = tt
by_recursion P (e ∷ es) all = (All-head (λ e. P e.0) e es all, by_recursion P es (All-tail (λ e. P e.0) e es all))

-- distinct names are as many as their map has
not_found : (name : List ℕ) (es : List (List ℕ × ℕ)) → AllByRecursion (λ other. eq_by_cmp bytes_cmp name other ≡ false) (map (λ e. e.0) es) → fin.find bytes_cmp name es ≡ None
not_found name [] all = refl
not_found name (e ∷ es) all = ap (λ b. cond b (Some e.1) (fin.find bytes_cmp name es)) all.0 ∙ not_found name es all.1

len-distinct : (es : List (List ℕ × ℕ)) → IsDistinct (eq_by_cmp bytes_cmp) (map (λ e. e.0) es) → fin.len (fin.from_entries {R = bytes_cmp} es) ≡ length es
unfolding IsDistinct
len-distinct [] once = fin.len-empty bytes_cmp ℕ
len-distinct (e ∷ es) once =
    let absent : fin.contains_key (fin.from_entries {R = bytes_cmp} es) e.0 ≡ false = ap is_some (fin.get-from_entries nat_list_cmp_total es e.0 ∙ not_found e.0 es once.0) in
    let rest = len-distinct es once.1 in
    fin.len-insert nat_list_cmp_total (fin.from_entries es) e.0 e.1 ∙ ap (λ b. cond b (fin.len (fin.from_entries {R = bytes_cmp} es)) (fin.len (fin.from_entries {R = bytes_cmp} es) + 1)) absent ∙ omega (arith, rest)

module _ (w : World) (sound : IsSound w) where
  abbrev shown : List (ℕ × List ℕ) → List ListedFile
  shown es = map (listed_file w) es

  named_above : (a : ℕ) (es : List (ℕ × List ℕ)) → All (λ e. a < e.0) es → All (λ e. a < e.1) (named (shown es))
  named_above a [] all = All-nil (λ e. a < e.1)
  named_above a (e ∷ es) all = at (name_of_file w e.0) (named_above a es (All-tail (λ e. a < e.0) e es all))
    where
      at : (o : Option (List ℕ)) → All (λ e. a < e.1) (named (shown es)) → All (λ e. a < e.1) (with_name o e.0 (named (shown es)))
      at None rest = rest
      at (Some name) rest = All-cons (λ e. a < e.1) (name, e.0) (named (shown es)) (All-head (λ e. a < e.0) e es all) rest

  once : (es : List (ℕ × List ℕ)) → T (fin.is_sorted nat_cmp es) → IsDistinct (eq_by_cmp bytes_cmp) (map (λ e. e.0) (named (shown es)))
  unfolding IsDistinct
  once [] sorted = tt
  once (e ∷ es) sorted = at (name_of_file w e.0) (right_name w e.0 (name_of_file w e.0) refl) (once es parts.1)
    where
      parts : T (below_all nat_cmp e.0 es) × T (fin.is_sorted nat_cmp es)
      parts = both (below_all nat_cmp e.0 es) (fin.is_sorted nat_cmp es) sorted

      apart : (name other : List ℕ) (n : ℕ) → fin.get w.names name ≡ Some e.0 → fin.get w.names other ≡ Some n → e.0 < n → eq_by_cmp bytes_cmp name other ≡ false
      apart name other n held also less = elim (eq_by_cmp bytes_cmp name other) as (λ b. eq_by_cmp bytes_cmp name other ≡ b → b ≡ false) [
        | true ↦ λ tie.
            let same : name ≡ other = bytes_cmp-IsAntisymmetric name other (equal (bytes_cmp name other) tie) in
            let number : e.0 ≡ n = same_Some e.0 n (sym held ∙ ap (fin.get w.names) same ∙ also) in
            absurd (omega arith)
        | false ↦ λ _. refl
      ] refl

      at : (o : Option (List ℕ)) → IfSome o (λ name. fin.get w.names name ≡ Some e.0) → IsDistinct (eq_by_cmp bytes_cmp) (map (λ e. e.0) (named (shown es))) → IsDistinct (eq_by_cmp bytes_cmp) (map (λ e. e.0) (with_name o e.0 (named (shown es))))
      at None held rest = rest
      at (Some name) held rest =
          let over = named_above e.0 es (all_above e.0 es parts.0) in
          let right = names_right w es in
          (by_recursion (λ other. eq_by_cmp bytes_cmp name other ≡ false) (named (shown es)) (λ k d inside. apart name _ _ held (right k d inside) (over k d inside)), rest)

  files_sorted : T (fin.is_sorted nat_cmp (fin.entries w.files))
  files_sorted = fin.entries_sorted w.files

  pub good_order : AreOrdered (lists_of w)
  good_order = record {
    files_rise = ap (λ (es : List (ℕ × List ℕ)). fin.is_sorted nat_cmp es) (contents_listed w (fin.entries w.files)) ∙ is_true _ files_sorted;
    open_files_rise = is_true _ (fin.entries_sorted w.open_files);
    two_streams = refl;
  }

  files_all : (P : ListedFile → Type 0) → ((e : ℕ × List ℕ) → fin.get w.files e.0 ≡ Some e.1 → P (listed_file w e)) → All P (shown (fin.entries w.files))
  files_all P each = All-map P (listed_file w) (fin.entries w.files) (λ k d inside. each _ (all_got w.files k d inside))

  pub good_range : AreInRange (lists_of w)
  good_range =
      let distinct = once (fin.entries w.files) files_sorted in
      let names = names_right w (fin.entries w.files) in
      record {
        few_names = (let few = sound.within.few_names in omega (arith, len-distinct (named (shown (fin.entries w.files))) distinct, ap fin.len (names_same w sound)));
        good_names = λ k d inside. (sound.within.good_names _ _ (names k d inside), sound.within.name_bytes _ _ (names k d inside));
        distinct = distinct;
        low_numbers = files_all (λ f. f.number < file_number_end) (λ e is. sound.within.low_numbers e.0 (ap is_some is));
        good_files = files_all (λ f. IsContent f.content) (λ e is. record { bytes = sound.within.file_bytes e.0 e.1 is; small = sound.within.small_files e.0 e.1 is });
        good_streams = All-cons IsContent w.stream1 (w.stream2 ∷ []) (record { bytes = sound.within.stream1_bytes; small = sound.within.small_stream1 })
            (All-cons IsContent w.stream2 [] (record { bytes = sound.within.stream2_bytes; small = sound.within.small_stream2 }) (All-nil IsContent));
        small_total = (let small = sound.within.small_total in
            omega (arith, two_sum (w.stream1 ∷ w.stream2 ∷ []) refl, values_sum (shown (fin.entries w.files)), ap (λ es. sum_by length (map (λ e. e.1) es)) (contents_listed w (fin.entries w.files))));
        low_open_files = λ k d inside. sound.within.low_open_files _ _ (all_got w.open_files k d inside);
        good_open_files = λ k d inside. sound.within.good_open_files _ _ (all_got w.open_files k d inside);
      }

  number_listed : (n : ℕ) (es : List (ℕ × List ℕ)) → IsSome (fin.find nat_cmp n es) → list_any (λ f. eqb f.number n) (shown es) ≡ true
  number_listed n [] held = absurd (false≢true held)
  number_listed n (e ∷ es) held = elim (eq_by_cmp nat_cmp n e.0) as (λ b. eq_by_cmp nat_cmp n e.0 ≡ b → IsSome (cond b (Some e.1) (fin.find nat_cmp n es)) → (eqb e.0 n || list_any (λ f. eqb f.number n) (shown es)) ≡ true) [
    | true ↦ λ tie _. or_left (eqb e.0 n) _ (eq-eqb e.0 n (sym (eqb-true n e.0 (sym (unsigned_tied n e.0) ∙ tie))))
    | false ↦ λ _ later. or_right (eqb e.0 n) _ (number_listed n es later)
  ] refl held

  open_file_listed : (fd : ℕ) (open_file : OpenFile) → fin.get w.open_files fd ≡ Some open_file → is_listed (shown (fin.entries w.files)) open_file ≡ true
  open_file_listed fd Input is = refl
  open_file_listed fd Stream1 is = refl
  open_file_listed fd Stream2 is = refl
  open_file_listed fd (File number file_offset access) is =
      number_listed number (fin.entries w.files) (sym (ap is_some (fin.get-entries w.files number)) ∙ sound.joined.open_held fd number file_offset access is)

  some_name : (o : Option (List ℕ × ℕ)) → is_some (option_map (λ e. e.0) o) ≡ is_some o
  some_name None = refl
  some_name (Some e) = refl

  file_used : (n : ℕ) → IsSome (fin.get w.files n) → (is_some (name_of_file w n) || list_any (λ e. is_of n e.1) (fin.entries w.open_files)) ≡ true
  file_used n held = or_cases (is_named w n) (is_open w n) (sound.joined.used n held)
      (λ named. or_left (is_some (name_of_file w n)) _ (some_name (find (λ e. eqb e.1 n) (fin.entries w.names)) ∙ is_some-found n (fin.entries w.names) ∙ named))
      (λ opened. or_right (is_some (name_of_file w n)) _ (sym (any_value n (fin.entries w.open_files)) ∙ opened))

  pub good_join : AreJoined (lists_of w)
  good_join = record {
    held = λ k d inside. open_file_listed _ _ (all_got w.open_files k d inside);
    used = files_all (λ f. IsTrue (is_used (fin.entries w.open_files) f)) (λ e is. file_used e.0 (ap is_some is));
  }
