-- What a reading that succeeded tells.
use Rattle.std.proofs.Common.{◌≡◌, ℕ, zero, suc, ◌+◌, ◌≤◌, ℤ, pos, negsuc, Bool, true, false, cond, List, [], ◌∷◌, ◌++◌, length, Option, Some, None, Result, Ok, Err, refl, ap, subst, arith, length-append}
use Rattle.std.proofs.lemmas.Bool.{leb-true}
use Rattle.std.specs.Prelude.{nat_le, ◌&&◌, IfSome, slice_get, option_map}
use Rattle.ddc_base.specs.Results.{◌>>=◌, ◌>>◌, error_unless, or_error}
use Rattle.toml.specs.Data.{Data, Members, get_member, as_integer, as_array}
use Rattle.ddc_base.specs.Names.{IsName, is_name, name_of}
use Rattle.recipe.specs.declared.text.keys.Key.{Key}
use Rattle.recipe.specs.declared.text.keys.Place.{Place}
use Rattle.recipe.specs.declared.text.refusal.RecipeRefusal.{RecipeRefusal}
use Rattle.recipe.specs.declared.text.refusal.RecipeRefusal.TheVariants.{Missing, BadName, BadPath, BadNumber, TooMany}
use Rattle.recipe.specs.Text.Keys.{key_word}
use Rattle.recipe.specs.Text.Reading.{where_there, gathered, each_passes, a_text, a_name, is_path, path_of, a_path, is_word, a_word, in_range, a_number, an_array, values_of, a_list, required, optional}

-- ---- a step that succeeded

pub bind_ok : {A B : Type 0} (r : Result A RecipeRefusal) (f : A → Result B RecipeRefusal) (y : B) → (r >>= f) ≡ Ok y → (x : A) × (r ≡ Ok x) × (f x ≡ Ok y)
bind_ok (Ok x) f y e = (x, refl, e)
bind_ok (Err d) f y e = absurd cc

-- the same, handed on
pub bound : {A B : Type 0} (Q : Type 0) (r : Result A RecipeRefusal) (f : A → Result B RecipeRefusal) (y : B)
    → (r >>= f) ≡ Ok y → ((x : A) → r ≡ Ok x → f x ≡ Ok y → Q) → Q
bound Q (Ok x) f y e then = then x refl e
bound Q (Err d) f y e then = absurd cc

abbrev fine : {A : Type 0} → A → Result A RecipeRefusal
fine x = Ok x

pub ok_same : {A : Type 0} (x y : A) → fine x ≡ fine y → x ≡ y
ok_same x y e = cc

pub or_ok : {A : Type 0} (refusal : RecipeRefusal) (o : Option A) (x : A) → or_error refusal o ≡ Ok x → o ≡ Some x
or_ok refusal None x e = absurd cc
or_ok refusal (Some y) x e = ap Some (ok_same y x e)

pub unless_ok : (refusal : RecipeRefusal) (test : Bool) (x : Unit {0}) → error_unless refusal test ≡ Ok x → test ≡ true
unless_ok refusal true x e = refl
unless_ok refusal false x e = absurd cc

-- a step, and a test of what it gave
pub bind_unless : {A : Type 0} (r : Result A RecipeRefusal) (refusal : RecipeRefusal) (test : A → Bool) (y : A)
    → (r >>= λ x. error_unless refusal (test x) >> fine x) ≡ Ok y → (r ≡ Ok y) × (test y ≡ true)
bind_unless r refusal test y e =
    let a = bind_ok r (λ x. error_unless refusal (test x) >> fine x) y e in
    let b = bind_ok (error_unless refusal (test a.0)) (λ _. fine a.0) y a.2 in
    let same = ok_same a.0 y b.2 in
    (rw (← same) a.1, rw (← same) (unless_ok refusal (test a.0) b.0 b.1))

-- ---- at a key

pub required_ok : {A : Type 0} (read : Place → Key → Data → Result A RecipeRefusal) (place : Place) (key : Key) (table : Members) (x : A)
    → required read place key table ≡ Ok x → (value : Data) × (read place key value ≡ Ok x)
unfolding required
required_ok read place key table x e =
    let a = bind_ok (or_error (Missing place key) (get_member (key_word key) table)) (read place key) x e in
    (a.0, a.2)

abbrev pub Read : {A : Type 0} → (Place → Key → Data → Result A RecipeRefusal) → Place → Key → A → Type 0
Read read place key x = (value : Data) × (read place key value ≡ Ok x)

there_ok : {A : Type 0} (read : Place → Key → Data → Result A RecipeRefusal) (place : Place) (key : Key) (found : Option Data) (o : Option A)
    → where_there (read place key) found ≡ Ok o → IfSome o (Read read place key)
there_ok read place key None o e = subst (λ o. IfSome o (Read read place key)) (ok_same None o e) tt
there_ok read place key (Some value) o e =
    let a = bind_ok (read place key value) (λ x. fine (Some x)) o e in
    subst (λ o. IfSome o (Read read place key)) (ok_same (Some a.0) o a.2) (value, a.1)

pub optional_ok : {A : Type 0} (read : Place → Key → Data → Result A RecipeRefusal) (place : Place) (key : Key) (table : Members) (o : Option A)
    → optional read place key table ≡ Ok o → IfSome o (Read read place key)
unfolding optional
optional_ok read place key table o e = there_ok read place key (get_member (key_word key) table) o e

-- ---- names, paths, words, numbers

pub chosen : {A : Type 0} (test : Bool) (x y : A) → cond test (Some x) None ≡ Some y → (test ≡ true) × (x ≡ y)
chosen true x y e = (refl, cc)
chosen false x y e = absurd cc

pub name_ok : (place : Place) (key : Key) (value : Data) (name : List ℕ) → a_name place key value ≡ Ok name → IsName name
unfolding a_name
name_ok place key value name e =
    let a = bind_ok (a_text place key value) (λ text. or_error (BadName place key) (name_of text)) name e in
    let b = chosen (is_name a.0) a.0 name (or_ok (BadName place key) (name_of a.0) name a.2) in
    subst IsName b.1 b.0

pub path_of_ok : (text path : List ℕ) → path_of text ≡ Some path → (is_path path ≡ true) × (text ≡ path)
path_of_ok text path e = let b = chosen (is_path text) text path e in (subst (λ p. is_path p ≡ true) b.1 b.0, b.1)

pub path_ok : (place : Place) (key : Key) (value : Data) (path : List ℕ) → a_path place key value ≡ Ok path → is_path path ≡ true
unfolding a_path
path_ok place key value path e =
    let a = bind_ok (a_text place key value) (λ text. or_error (BadPath place key) (path_of text)) path e in
    (path_of_ok a.0 path (or_ok (BadPath place key) (path_of a.0) path a.2)).0

pub word_ok : (place : Place) (key : Key) (value : Data) (text : List ℕ) → a_word place key value ≡ Ok text → is_word text ≡ true
unfolding a_word
word_ok place key value text e = (bind_unless (a_text place key value) (BadPath place key) is_word text e).1

pub both_true : (a b : Bool) → (a && b) ≡ true → (a ≡ true) × (b ≡ true)
both_true true b e = (refl, e)
both_true false b e = absurd cc

within : (least most n k : ℕ) → cond (nat_le least n && nat_le n most) (Some n) None ≡ Some k → (least ≤ k) × (k ≤ most)
within least most n k e =
    let c = chosen (nat_le least n && nat_le n most) n k e in
    let b = both_true (nat_le least n) (nat_le n most) c.0 in
    let low = leb-true least n b.0 in
    let high = leb-true n most b.1 in
    (omega (arith, low, c.1), omega (arith, high, c.1))

in_range_ok : (least most : ℕ) (number : ℤ) (k : ℕ) → in_range least most number ≡ Some k → (least ≤ k) × (k ≤ most)
in_range_ok least most (pos n) k e = within least most n k e
in_range_ok least most (negsuc n) k e = absurd cc

pub number_ok : (least most : ℕ) (place : Place) (key : Key) (value : Data) (k : ℕ) → a_number least most place key value ≡ Ok k → (least ≤ k) × (k ≤ most)
unfolding a_number
number_ok least most place key value k e =
    let a = bind_ok (or_error (Missing place key) (as_integer value)) (λ number. or_error (BadNumber place key) (in_range least most number)) k e in
    in_range_ok least most a.0 k (or_ok (BadNumber place key) (in_range least most a.0) k a.2)

-- ---- lists

pub gathered_length : {B C : Type 0} (next : List B → C → Result B RecipeRefusal) (found : List B) (xs : List C) (ys : List B)
    → gathered next found xs ≡ Ok ys → length ys ≡ length found + length xs
unfolding gathered
gathered_length next found [] ys e = let same = ok_same found ys e in omega (arith, ap length same)
gathered_length next found (x ∷ xs) ys e =
    let a = bind_ok (next found x) (λ y. gathered next (found ++ y ∷ []) xs) ys e in
    let more = gathered_length next (found ++ a.0 ∷ []) xs ys a.2 in
    omega (arith, more, length-append found (a.0 ∷ []))

-- what each step keeps
pub gathered_keeps : {B C : Type 0} (P : List B → Type 0) (next : List B → C → Result B RecipeRefusal) (found : List B) (xs : List C) (ys : List B)
    → ((before : List B) (x : C) (y : B) → P before → next before x ≡ Ok y → P (before ++ y ∷ [])) → P found → gathered next found xs ≡ Ok ys → P ys
unfolding gathered
gathered_keeps P next found [] ys keeps kept e = subst P (ok_same found ys e) kept
gathered_keeps P next found (x ∷ xs) ys keeps kept e =
    let a = bind_ok (next found x) (λ y. gathered next (found ++ y ∷ []) xs) ys e in
    gathered_keeps P next (found ++ a.0 ∷ []) xs ys keeps (keeps found x a.0 kept a.1) a.2

-- P holds of the element at each index
abbrev pub At : {A : Type 0} → (A → Type 0) → List A → Type 0
At {A} P xs = (i : ℕ) (x : A) → slice_get xs i ≡ Some x → P x

abbrev some : {A : Type 0} → A → Option A
some x = Some x

pub some_same : {A : Type 0} (x y : A) → some x ≡ some y → x ≡ y
some_same x y e = cc

pub push_at : {A : Type 0} (P : A → Type 0) (xs : List A) (y : A) → At P xs → P y → At P (xs ++ y ∷ [])
push_at P [] y all one zero x e = subst P (some_same y x e) one
push_at P [] y all one (suc i) x e = absurd cc
push_at P (z ∷ zs) y all one zero x e = all 0 x e
push_at P (z ∷ zs) y all one (suc i) x e = push_at P zs y (λ j w is. all (suc j) w is) one i x e

pub none_at : {A : Type 0} (P : A → Type 0) → At P []
none_at P i x e = absurd cc

-- a fact of each element, whatever stood before it
pub gathered_each : {B C : Type 0} (P : B → Type 0) (next : List B → C → Result B RecipeRefusal) (xs : List C) (ys : List B)
    → ((before : List B) (x : C) (y : B) → next before x ≡ Ok y → P y) → gathered next [] xs ≡ Ok ys → At P ys
gathered_each P next xs ys each e =
    gathered_keeps (At P) next [] xs ys (λ before x y all is. push_at P before y all (each before x y is)) (none_at P) e

pub record Few (least most n : ℕ) : Type 0 where
  pub some : least ≤ n
  pub few : n ≤ most

pub array_ok : (least most : ℕ) (place : Place) (key : Key) (value : Data) (values : List Data) → an_array least most place key value ≡ Ok values → Few least most (length values)
unfolding an_array
array_ok least most place key value values e =
    let a = bind_ok (or_error (Missing place key) (option_map values_of (as_array value)))
    (λ found. error_unless (TooMany place key) (nat_le (length found) most) >> (error_unless (Missing place key) (nat_le least (length found)) >> fine found)) values e in
    let b = bind_ok (error_unless (TooMany place key) (nat_le (length a.0) most)) (λ _. error_unless (Missing place key) (nat_le least (length a.0)) >> fine a.0) values a.2 in
    let d = bind_ok (error_unless (Missing place key) (nat_le least (length a.0))) (λ _. fine a.0) values b.2 in
    let same = ok_same a.0 values d.2 in
    let few = leb-true (length a.0) most (unless_ok _ _ b.0 b.1) in
    let some = leb-true least (length a.0) (unless_ok _ _ d.0 d.1) in
    subst (λ values. Few least most (length values)) same (record { some = some; few = few })

pub list_ok : {A : Type 0} (read : Place → Key → Data → Result A RecipeRefusal) (least most : ℕ) (place : Place) (key : Key) (value : Data) (xs : List A)
    → a_list read least most place key value ≡ Ok xs → Few least most (length xs) × At (Read read place key) xs
unfolding a_list
list_ok read least most place key value xs e =
    let a = bind_ok (an_array least most place key value) (λ values. gathered (λ _ element. read place key element) [] values) xs e in
    let long = gathered_length (λ _ element. read place key element) [] a.0 xs a.2 in
    let few = array_ok least most place key value a.0 a.1 in (
      record { some = omega (arith, few.some, long); few = omega (arith, few.few, long) },
      gathered_each (Read read place key) (λ _ element. read place key element) a.0 xs (λ before x y is. (x, is)) a.2,
    )

-- ---- a walk that passed

pub passes_at : {X : Type 0} (test : ℕ → X → Result (Unit {0}) RecipeRefusal) (number : ℕ) (xs : List X) (i : ℕ) (x : X)
    → each_passes test number xs ≡ Ok tt → slice_get xs i ≡ Some x → test (number + i) x ≡ Ok tt
unfolding each_passes
passes_at test number [] i x passed is = absurd cc
passes_at test number (y ∷ xs) zero x passed is =
    let a = bind_ok (test number y) (λ _. each_passes test (number + 1) xs) tt passed in
    let up : number + 0 ≡ number = omega arith in
    rw (up, ← some_same y x is) a.1
passes_at test number (y ∷ xs) (suc i) x passed is =
    let a = bind_ok (test number y) (λ _. each_passes test (number + 1) xs) tt passed in
    let up : number + suc i ≡ (number + 1) + i = omega arith in
    rw up (passes_at test (number + 1) xs i x a.2 is)
