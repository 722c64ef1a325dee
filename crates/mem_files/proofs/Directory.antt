-- The entries of the tree of names, in order, as the map from names to numbers.
use Rattle.std.proofs.Common.{◌≡◌, ℕ, Bool, true, false, cond, not, ◌&&◌, T, List, [], ◌∷◌, length, map, Some, None, refl, sym, ap, ◌∙◌, subst}
use Rattle.std.specs.Ordering.{eq_by_cmp, is_eq, is_lt, match_ordering}
use Rattle.std.specs.declared.cmp.Ordering.{Ordering}
use Rattle.std.specs.declared.cmp.Ordering.TheVariants.{Less, Equal, Greater}
use Rattle.std.specs.Cmp.{alike_right, eq_by_cmp_equiv}
use Rattle.std.specs.Cmp.Lexicographic.{nat_list_cmp_total}
use Rattle.std.specs.BTreeMap.{insert_entry}
use Rattle.std.specs.Map.{lookup, remove_entry}
use Rattle.std.specs.FinMap.{FinMap, IsAntisymmetric, nat_cmp-IsAntisymmetric, slice_cmp-IsAntisymmetric, get, insert, remove, from_sorted, entries-from_sorted, get-from_sorted, entries-insert, same_entries_map, same_map, get-remove, find, put, is_sorted, len, len-entries}
use Rattle.std.specs.FinMap.Entries.{by_order, below_all, where_key, is_sorted-where_key, is_sorted-put, find-where_key}
use Rattle.mem_files.specs.Names.{bytes_cmp}
use Rattle.mem_files.specs.Inside.Cells.{keyed}

pub bytes_cmp-IsAntisymmetric : IsAntisymmetric bytes_cmp
bytes_cmp-IsAntisymmetric = slice_cmp-IsAntisymmetric nat_cmp-IsAntisymmetric

pub same_name_map : {X : Type 0} (m n : FinMap bytes_cmp X) → ((q : List ℕ) → get m q ≡ get n q) → m ≡ n
same_name_map m n is = same_map nat_list_cmp_total bytes_cmp-IsAntisymmetric m n is

both : (a b : Bool) → T (a && b) → T a × T b
both true b h = (tt, h)
both false b h = absurd h

pub equal : (r : Ordering) → is_eq r ≡ true → r ≡ Equal
equal Less e = absurd (subst T (sym e) tt)
equal Equal e = refl
equal Greater e = absurd (subst T (sym e) tt)

less : (r : Ordering) → T (is_lt r) → r ≡ Less
less Less e = refl
less Equal e = absurd e
less Greater e = absurd e

pub keys-keyed : {K X : Type 0} (view : K → List ℕ) (es : List (K × X)) → map (λ e. e.0) (keyed view es) ≡ map (λ e. view e.0) es
keys-keyed view [] = refl
keys-keyed view (e ∷ es) = ap (λ rest. view e.0 ∷ rest) (keys-keyed view es)

module _ {K X : Type 0} (view : K → List ℕ) where
  pub find-keyed : (q : List ℕ) (es : List (K × X)) → find bytes_cmp q (keyed view es) ≡ lookup (λ k. is_eq (bytes_cmp q (view k))) es
  find-keyed q [] = refl
  find-keyed q (e ∷ es) = ap (cond (is_eq (bytes_cmp q (view e.0))) (Some e.1)) (find-keyed q es)

  pub keyed-insert : (es : List (K × X)) (k : K) (v : X) → keyed view (insert_entry (λ a b. bytes_cmp (view a) (view b)) es k v) ≡ put bytes_cmp (view k) v (keyed view es)
  keyed-insert [] k v = refl
  keyed-insert (e ∷ es) k v =
      elim (bytes_cmp (view k) (view e.0)) as (λ r. keyed view (match_ordering r ((k, v) ∷ e ∷ es) ((e.0, v) ∷ es) (e ∷ insert_entry (λ a b. bytes_cmp (view a) (view b)) es k v))
      ≡ by_order r ((view k, v) ∷ (view e.0, e.1) ∷ keyed view es) ((view e.0, v) ∷ keyed view es) ((view e.0, e.1) ∷ put bytes_cmp (view k) v (keyed view es))) [
        | Less ↦ refl
        | Equal ↦ refl
        | Greater ↦ ap (λ rest. (view e.0, e.1) ∷ rest) (keyed-insert es k v)
      ]

  -- nothing that ties with x is among what is above x
  all_kept : (q x : List ℕ) (es : List (List ℕ × X)) → bytes_cmp q x ≡ Equal → T (below_all bytes_cmp x es) → where_key bytes_cmp (λ y. not (eq_by_cmp bytes_cmp q y)) es ≡ es
  all_kept q x [] tie below = refl
  all_kept q x (e ∷ es) tie below =
      let parts = both (is_lt (bytes_cmp x e.0)) (below_all bytes_cmp x es) below in
      ap (λ r. cond (not (is_eq r)) (e ∷ where_key bytes_cmp (λ y. not (eq_by_cmp bytes_cmp q y)) es) (where_key bytes_cmp (λ y. not (eq_by_cmp bytes_cmp q y)) es)) (nat_list_cmp_total.congr q x e.0 tie ∙ less _ parts.0)
      ∙ ap (λ rest. e ∷ rest) (all_kept q x es tie parts.1)

  pub keyed-remove : (q : List ℕ) (es : List (K × X)) → T (is_sorted bytes_cmp (keyed view es))
      → keyed view (remove_entry (λ k. is_eq (bytes_cmp q (view k))) es) ≡ where_key bytes_cmp (λ y. not (eq_by_cmp bytes_cmp q y)) (keyed view es)
  keyed-remove q [] s = refl
  keyed-remove q (e ∷ es) s =
      let parts = both (below_all bytes_cmp (view e.0) (keyed view es)) (is_sorted bytes_cmp (keyed view es)) s in
      let kept = where_key bytes_cmp (λ y. not (eq_by_cmp bytes_cmp q y)) (keyed view es) in
      elim (is_eq (bytes_cmp q (view e.0))) as (λ b. is_eq (bytes_cmp q (view e.0)) ≡ b → keyed view (cond b es (e ∷ remove_entry (λ k. is_eq (bytes_cmp q (view k))) es)) ≡ cond (not b) ((view e.0, e.1) ∷ kept) kept) [
        | true ↦ λ tie. sym (all_kept q (view e.0) (keyed view es) (equal _ tie) parts.0)
        | false ↦ λ _. ap (λ rest. (view e.0, e.1) ∷ rest) (keyed-remove q es parts.1)
      ] refl

turned : {A : Type 0} (b : Bool) (x y : A) → cond (not b) x y ≡ cond b y x
turned true x y = refl
turned false x y = refl

module _ {X : Type 0} (es : List (List ℕ × X)) (s : T (is_sorted bytes_cmp es)) where
  pub from_sorted-put : (k : List ℕ) (v : X) → from_sorted (put bytes_cmp k v es) ≡ insert (from_sorted {R = bytes_cmp} es) k v
  from_sorted-put k v =
      same_entries_map _ _ (entries-from_sorted bytes_cmp _ (is_sorted-put bytes_cmp nat_list_cmp_total k v es s)
      ∙ ap (put bytes_cmp k v) (sym (entries-from_sorted bytes_cmp es s)) ∙ sym (entries-insert nat_list_cmp_total (from_sorted es) k v))

  pub from_sorted-where_key : (k : List ℕ) → from_sorted (where_key bytes_cmp (λ y. not (eq_by_cmp bytes_cmp k y)) es) ≡ remove (from_sorted {R = bytes_cmp} es) k
  from_sorted-where_key k =
      let others : List ℕ → Bool = λ y. not (eq_by_cmp bytes_cmp k y) in
      same_name_map _ _ (λ q. get-from_sorted bytes_cmp (where_key bytes_cmp others es) q (is_sorted-where_key bytes_cmp others es s)
      ∙ find-where_key bytes_cmp others q (λ x t. ap (λ r. not (is_eq r)) (sym (alike_right nat_list_cmp_total q x k t))) es
      ∙ turned (eq_by_cmp bytes_cmp k q) (find bytes_cmp q es) None
      ∙ ap (λ b. cond b None (find bytes_cmp q es)) ((eq_by_cmp_equiv nat_list_cmp_total).symm k q)
      ∙ ap (cond (eq_by_cmp bytes_cmp q k) None) (sym (get-from_sorted bytes_cmp es q s))
      ∙ sym (get-remove nat_list_cmp_total (from_sorted es) k q))

  pub len-from_sorted : len (from_sorted {R = bytes_cmp} es) ≡ length es
  len-from_sorted = len-entries (from_sorted es) ∙ ap length (entries-from_sorted bytes_cmp es s)
