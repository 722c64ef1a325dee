-- A walk over the names of files by "the first one after".
use Rattle.std.proofs.Common.{◌≡◌, ℕ, ◌<◌, Bool, true, false, cond, ◌&&◌, ◌||◌, T, IsTrue, is_some, unwrap_or, Option, Some, None, List, [], ◌∷◌, length, map, filter, find, refl, sym, ap, subst, ◌∙◌, arith}
use Rattle.std.specs.Ordering.{is_lt, is_eq, eq_by_cmp}
use Rattle.std.specs.declared.cmp.Ordering.{Ordering}
use Rattle.std.specs.declared.cmp.Ordering.TheVariants.{Less, Equal, Greater}
use Rattle.std.specs.Cmp.Lexicographic.{nat_list_cmp_total}
use Rattle.std.specs.Cmp.{tied_itself}
use Rattle.std.specs.FinMap as finite
use Rattle.std.specs.FinMap.Entries.{below_all}
use Rattle.std.specs.List.{list_any}
use Rattle.mem_files.specs.Names.{bytes_cmp, is_stripped_name}
use Rattle.mem_files.specs.World.{World, content_of}
use Rattle.mem_files.specs.Sound.{IsSound}
use Rattle.mem_files.specs.Calls.{is_after, content_at}
use Rattle.mem_files.specs.Outputs.{left, named_content}

-- a name is before every name of these
abbrev pub IsBelowAll : List ℕ → List (List ℕ) → Type 0
IsBelowAll name [] = Unit {0}
IsBelowAll name (first ∷ rest) = (is_lt (bytes_cmp name first) ≡ true) × IsBelowAll name rest

-- the names rise
abbrev pub Rise : List (List ℕ) → Type 0
Rise [] = Unit {0}
Rise (first ∷ rest) = IsBelowAll first rest × Rise rest

less : (o : Ordering) → is_lt o ≡ true → o ≡ Less
less Less p = refl
less Equal p = absurd cc
less Greater p = absurd cc

or-right : (a b : Bool) → b ≡ true → (a || b) ≡ true
or-right true b h = refl
or-right false b h = h

both-second : (a b : Bool) → T (a && b) → T b
both-second true b t = t
both-second false b t = absurd t

-- the order is transitive, and no name is before one that it is after
lt-trans : (a b c : List ℕ) → is_lt (bytes_cmp a b) ≡ true → is_lt (bytes_cmp b c) ≡ true → is_lt (bytes_cmp a c) ≡ true
lt-trans a b c p q = ap is_lt (nat_list_cmp_total.trans a b c (less _ p) (less _ q))

lt-flipped : (a b : List ℕ) → is_lt (bytes_cmp a b) ≡ true → is_lt (bytes_cmp b a) ≡ false
lt-flipped a b p =
    let e : bytes_cmp a b ≡ Less = less _ p in
    rw (nat_list_cmp_total.antisymm b a, e) refl

lt-itself : (a : List ℕ) → is_lt (bytes_cmp a a) ≡ false
lt-itself a = elim (is_lt (bytes_cmp a a)) as (λ b. is_lt (bytes_cmp a a) ≡ b → is_lt (bytes_cmp a a) ≡ false) [
  | true ↦ λ p. lt-flipped a a p
  | false ↦ λ p. p
] refl

-- a name that is after the given one passes that on to those that it is below
after-below : (given : Option (List ℕ)) (a b : List ℕ) → is_after given a ≡ true → is_lt (bytes_cmp a b) ≡ true → is_after given b ≡ true
after-below None a b p q = refl
after-below (Some g) a b p q = lt-trans g a b p q

-- names above one that is after the given one are all after it
filter-above : (given : Option (List ℕ)) (a : List ℕ) (names : List (List ℕ)) → is_after given a ≡ true → IsBelowAll a names → filter (is_after given) names ≡ names
filter-above given a [] p below = refl
filter-above given a (n ∷ ns) p below = rw (after-below given a n p below.0, filter-above given a ns p below.1) refl

filter-below : (a : List ℕ) (names : List (List ℕ)) → IsBelowAll a names → filter (is_after (Some a)) names ≡ names
filter-below a [] below = refl
filter-below a (n ∷ ns) below = rw (below.0, filter-below a ns below.1) refl

-- the name that is found is above one that is below all
below-found : (given : Option (List ℕ)) (k name : List ℕ) (names : List (List ℕ)) → IsBelowAll k names → find (is_after given) names ≡ Some name → is_lt (bytes_cmp k name) ≡ true
below-found given k name [] below found = absurd cc
below-found given k name (n ∷ ns) below found = go (is_after given n) (below-found given k name ns below.1) found where
  go : (b : Bool) → (find (is_after given) ns ≡ Some name → is_lt (bytes_cmp k name) ≡ true) → cond b (Some n) (find (is_after given) ns) ≡ Some name → is_lt (bytes_cmp k name) ≡ true
  go true later f = let same : n ≡ name = cc in let P : List ℕ → Type 0 = λ m. is_lt (bytes_cmp k m) ≡ true in subst P same below.0
  go false later f = later f

-- one turn of the walk: the first name after the given one, and those after it
pub walk-turn : (given : Option (List ℕ)) (name : List ℕ) (names : List (List ℕ)) → Rise names → find (is_after given) names ≡ Some name → filter (is_after given) names ≡ name ∷ filter (is_after (Some name)) names
walk-turn given name [] rise found = absurd cc
walk-turn given name (n ∷ ns) rise found = go (is_after given n) refl (walk-turn given name ns rise.1) found where
  go : (b : Bool) → is_after given n ≡ b → (find (is_after given) ns ≡ Some name → filter (is_after given) ns ≡ name ∷ filter (is_after (Some name)) ns) → cond b (Some n) (find (is_after given) ns) ≡ Some name → cond b (n ∷ filter (is_after given) ns) (filter (is_after given) ns) ≡ name ∷ cond (is_lt (bytes_cmp name n)) (n ∷ filter (is_after (Some name)) ns) (filter (is_after (Some name)) ns)
  go true is later f =
      let same : n ≡ name = cc in
      let P : List ℕ → Type 0 = λ m. n ∷ filter (is_after given) ns ≡ m ∷ cond (is_lt (bytes_cmp m n)) (n ∷ filter (is_after (Some m)) ns) (filter (is_after (Some m)) ns) in
      subst P same (rw (lt-itself n, filter-above given n ns is rise.0, filter-below n ns rise.0) refl)
  go false is later f =
      let above : is_lt (bytes_cmp n name) ≡ true = below-found given n name ns rise.0 f in
      rw (lt-flipped n name above) (later f)

-- the walk's end: no name is after the given one
pub walk-end : (given : Option (List ℕ)) (names : List (List ℕ)) → find (is_after given) names ≡ None → filter (is_after given) names ≡ []
walk-end given [] none = refl
walk-end given (n ∷ ns) none = go (is_after given n) (walk-end given ns) none where
  go : (b : Bool) → (find (is_after given) ns ≡ None → filter (is_after given) ns ≡ []) → cond b (Some n) (find (is_after given) ns) ≡ None → cond b (n ∷ filter (is_after given) ns) (filter (is_after given) ns) ≡ []
  go true later f = absurd cc
  go false later f = later f

-- what a test of three says
split : (a b c d : Bool) → T ((a && b) && (c && d)) → (a ≡ true) × T (b && d)
split true true true true t = (refl, tt)
split true true true false t = absurd t
split true true false d t = absurd t
split true false c d t = absurd t
split false b c d t = absurd t

-- the names of entries that rise
keys-below : (k : List ℕ) (entries : List (List ℕ × ℕ)) → T (finite.is_sorted bytes_cmp ((k, 0) ∷ entries)) → IsBelowAll k (map (λ e. e.0) entries)
keys-below k [] t = tt
keys-below k (e ∷ es) t =
    let parts = split (is_lt (bytes_cmp k e.0)) (below_all bytes_cmp k es) (below_all bytes_cmp e.0 es) (finite.is_sorted bytes_cmp es) t in
    (parts.0, keys-below k es parts.1)

keys-rise : (entries : List (List ℕ × ℕ)) → T (finite.is_sorted bytes_cmp entries) → Rise (map (λ e. e.0) entries)
keys-rise [] t = tt
keys-rise (e ∷ es) t = (keys-below e.0 es t, keys-rise es (both-second (below_all bytes_cmp e.0 es) (finite.is_sorted bytes_cmp es) t))

-- before the walk every name is left
pub walk-start : (names : List (List ℕ)) → filter (is_after None) names ≡ names
walk-start [] = refl
walk-start (n ∷ ns) = ap (λ rest. n ∷ rest) (walk-start ns)

-- a name that is found stands among the names
found-among : (given : Option (List ℕ)) (name : List ℕ) (names : List (List ℕ)) → find (is_after given) names ≡ Some name → list_any (eq_by_cmp bytes_cmp name) names ≡ true
found-among given name [] found = absurd cc
found-among given name (n ∷ ns) found = go (is_after given n) (found-among given name ns) found where
  go : (b : Bool) → (find (is_after given) ns ≡ Some name → list_any (eq_by_cmp bytes_cmp name) ns ≡ true) → cond b (Some n) (find (is_after given) ns) ≡ Some name → (eq_by_cmp bytes_cmp name n || list_any (eq_by_cmp bytes_cmp name) ns) ≡ true
  go true later f =
      let same : n ≡ name = cc in
      let P : List ℕ → Type 0 = λ m. (eq_by_cmp bytes_cmp name m || list_any (eq_by_cmp bytes_cmp name) ns) ≡ true in
      let tied : eq_by_cmp bytes_cmp name name ≡ true = ap is_eq (tied_itself nat_list_cmp_total name) in
      subst P (sym same) (rw tied refl)
  go false later f = or-right (eq_by_cmp bytes_cmp name n) _ (later f)

some_number : (found : Option ℕ) → is_some found ≡ true → (number : ℕ) × (found ≡ Some number)
some_number None p = absurd cc
some_number (Some number) p = (number, refl)

-- so it is a guest file name
pub walk-name : (w : World) (given : Option (List ℕ)) (name : List ℕ) → IsSound w → find (is_after given) (finite.keys w.names) ≡ Some name → IsTrue (is_stripped_name name)
walk-name w given name sound found =
    let held : is_some (finite.get w.names name) ≡ true = finite.contains_key-keys w.names name ∙ found-among given name (finite.keys w.names) found in
    let number = some_number (finite.get w.names name) held in
    sound.within.good_names name number.0 number.1

-- the names of a world rise
pub names-rise : (w : World) → Rise (finite.keys w.names)
names-rise w = keys-rise (finite.entries w.names) (finite.entries_sorted w.names)

-- fewer names are left after a turn
pub walk-shorter : (w : World) (given : Option (List ℕ)) (name : List ℕ) → find (is_after given) (finite.keys w.names) ≡ Some name → length (filter (is_after (Some name)) (finite.keys w.names)) < length (filter (is_after given) (finite.keys w.names))
walk-shorter w given name found =
    let turn = walk-turn given name (finite.keys w.names) (names-rise w) found in
    rw turn (omega arith)

-- a name that comes after another is not that one
not-tied : (a b : List ℕ) → is_lt (bytes_cmp a b) ≡ true → eq_by_cmp bytes_cmp b a ≡ false
not-tied a b p =
    let e : bytes_cmp a b ≡ Less = less _ p in
    rw (nat_list_cmp_total.antisymm b a, e) refl

-- each of these entries is found in a list
abbrev AreFound : List (List ℕ × ℕ) → List (List ℕ × ℕ) → Type 0
AreFound all [] = Unit {0}
AreFound all (e ∷ es) = (finite.find bytes_cmp e.0 all ≡ Some e.1) × AreFound all es

found-following : (e : List ℕ × ℕ) (all es : List (List ℕ × ℕ)) → IsBelowAll e.0 (map (λ f. f.0) es) → AreFound all es → AreFound (e ∷ all) es
found-following e all [] below found = tt
found-following e all (f ∷ fs) below found = (rw (not-tied e.0 f.0 below.0) found.0, found-following e all fs below.1 found.1)

all-found : (es : List (List ℕ × ℕ)) → Rise (map (λ e. e.0) es) → AreFound es es
all-found [] rise = tt
all-found (e ∷ es) rise =
    let tied : eq_by_cmp bytes_cmp e.0 e.0 ≡ true = ap is_eq (tied_itself nat_list_cmp_total e.0) in
    (rw tied refl, found-following e es es rise.0 (all-found es rise.1))

-- a name with what its file holds
abbrev pub named_at : World → List ℕ → List ℕ × List ℕ
named_at w name = (name, unwrap_or (content_at w name) [])

names-found : (w : World) (es : List (List ℕ × ℕ)) → AreFound (finite.entries w.names) es → map (named_content w) es ≡ map (named_at w) (map (λ e. e.0) es)
names-found w [] found = refl
names-found w (e ∷ es) found =
    let held : finite.get w.names e.0 ≡ Some e.1 = finite.get-entries w.names e.0 ∙ found.0 in
    let content : unwrap_or (content_at w e.0) [] ≡ content_of w e.1 = rw held refl in
    λ i. (e.0, sym content i) ∷ names-found w es found.1 i

-- the names in their order, with what their files hold, are what is left
pub names-left : (w : World) → map (named_at w) (finite.keys w.names) ≡ left w
unfolding left
names-left w = sym (names-found w (finite.entries w.names) (all-found (finite.entries w.names) (names-rise w)))
