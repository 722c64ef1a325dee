-- When a check finds nothing wrong.
use Rattle.std.proofs.Common.{◌≡◌, ℕ, zero, suc, ◌+◌, ◌<◌, ◌≤◌, ◌==◌, ◌&&◌, Bool, true, false, cond, Option, None, Some, Result, Ok, Err, List, [], ◌∷◌, ◌++◌, length, drop, take, get_or, map, refl, sym, ap, ◌∙◌, arith}
use Rattle.std.specs.Prelude.{bytes_eq, is_none, option_and_then, slice_get}
use Rattle.std.specs.List.{flat_map, join_with_byte}
use Rattle.std.specs.Option.{option_map}
use Rattle.std.proofs.lemmas.List.{append-nil, take_all}
use Rattle.std.proofs.lemmas.Option.{same_Some}
use Rattle.ddc_base.specs.Difference.{first_difference}
use Rattle.hex_langs.specs.declared.items.item.Item.{Item}
use Rattle.hex_langs.specs.declared.items.reader.HexRefusal.{HexRefusal}
use Rattle.hex_langs.specs.Link.Link.{Links}
use Rattle.ddc_base.specs.declared.languages.Language.{Language}
use Rattle.recipe.specs.declared.contents.RecipeContents.{RecipeContents}
use Rattle.recipe.specs.declared.parts.Source.{Source}
use Rattle.recipe.specs.declared.parts.SourceLanguage.TheVariants.{Defined}
use Rattle.recipe.specs.declared.parts.Stage.{Stage}
use Rattle.recipe.specs.Lookups.{source_named}
use Rattle.audit_rules.specs.SourceCheck.Checks.{check, checked, differs, first_other_item, hex_value, joined_files, same_item}
use Rattle.audit_rules.specs.Contents.{Contents, check_of, defined, source_check, text_check, text_of}

-- equal bytes have no difference
pub no-difference : (value made : List ℕ) → is_none (differs (first_difference value made)) ≡ bytes_eq value made
no-difference [] [] = refl
no-difference [] (y ∷ ys) = refl
no-difference (x ∷ xs) [] = refl
no-difference (x ∷ xs) (y ∷ ys) = by_test (x == y) (no-difference xs ys) where
  later : (o : Option ℕ) → is_none (differs (option_map suc o)) ≡ is_none (differs o)
  later None = refl
  later (Some n) = refl

  by_test : (b : Bool) → is_none (differs (first_difference xs ys)) ≡ bytes_eq xs ys
      → is_none (differs (cond b (option_map suc (first_difference xs ys)) (Some 0))) ≡ (b && bytes_eq xs ys)
  by_test true same = later (first_difference xs ys) ∙ same
  by_test false same = refl

pub value-right : (r : Result (List ℕ) HexRefusal) (bytes made : List ℕ) (meant : Result (List ℕ) HexRefusal) → r ≡ Ok bytes → Links r meant
    → bytes_eq bytes made ≡ is_none (checked (hex_value meant) made)
value-right (Err why) bytes made meant is links = absurd cc
value-right (Ok b) bytes made meant is links =
    sym (no-difference bytes made) ∙ ap (λ m. is_none (checked (hex_value m) made)) (sym is ∙ links)

-- items
later : (o : Option ℕ) → is_none (differs (option_map suc o)) ≡ is_none (differs o)
later None = refl
later (Some n) = refl

none-later : (o : Option ℕ) → is_none (option_map suc o) ≡ is_none o
none-later None = refl
none-later (Some n) = refl

pub other-length : (xs ys : List Item) → (length xs ≡ length ys → ⊥) → is_none (first_other_item xs ys) ≡ false
other-length [] [] differ = absurd (differ refl)
other-length [] (y ∷ ys) differ = refl
other-length (x ∷ xs) [] differ = refl
other-length (x ∷ xs) (y ∷ ys) differ = by_test (same_item x y) (other-length xs ys (λ same. differ (omega (arith, same)))) where
  by_test : (b : Bool) → is_none (first_other_item xs ys) ≡ false → is_none (cond b (option_map suc (first_other_item xs ys)) (Some 0)) ≡ false
  by_test true rest = none-later (first_other_item xs ys) ∙ rest
  by_test false rest = refl

-- a text is its first file, and each other after an LF
pub joined-first : {A : Type 0} (bytes : A → List ℕ) (first : A) (others : List A)
    → join_with_byte 10 (map bytes (first ∷ others)) ≡ bytes first ++ flat_map (λ name. 10 ∷ bytes name) others
joined-first bytes first [] = sym (append-nil (bytes first))
joined-first bytes first (next ∷ others) = ap (λ rest. bytes first ++ 10 ∷ rest) (joined-first bytes next others)

-- the text so far, of all files
pub joined-whole : {A : Type 0} (bytes : A → List ℕ) (files others : List A) (first : A) (text head : List ℕ) (index : ℕ) → 1 ≤ length files
    → others ≡ drop 1 files → first ≡ get_or files 0 first → head ≡ bytes first → length others ≤ index
    → text ≡ head ++ flat_map (λ name. 10 ∷ bytes name) (take index others) → text ≡ join_with_byte 10 (map bytes files)
joined-whole bytes [] others first text head index some rest is head_is past text_is = absurd (omega (arith, some))
joined-whole bytes (file ∷ files) others first text head index some rest is head_is past text_is =
    text_is ∙ (λ i. (head_is ∙ ap bytes is) i ++ flat_map (λ name. 10 ∷ bytes name) ((take_all index others past ∙ rest) i)) ∙ sym (joined-first bytes file files)

-- the text of one file
pub joined-only : {A : Type 0} (bytes : A → List ℕ) (files : List A) (only : A) → length files ≡ 1 → only ≡ get_or files 0 only
    → join_with_byte 10 (map bytes files) ≡ bytes only
joined-only bytes [] only one is = absurd (omega (arith, one))
joined-only bytes (file ∷ []) only one is = ap bytes (sym is)
joined-only bytes (file ∷ other ∷ files) only one is = absurd (omega (arith, one))

pub joined-none : {A : Type 0} (bytes : A → List ℕ) (files : List A) → length files < 1 → join_with_byte 10 (map bytes files) ≡ []
joined-none bytes [] few = refl
joined-none bytes (file ∷ files) few = absurd (omega (arith, few))

-- past the end there is nothing
pub past : {A : Type 0} (xs : List A) (index : ℕ) → slice_get xs index ≡ None → index < length xs → ⊥
past [] index none less = absurd (omega (arith, less))
past (x ∷ xs) zero none less = absurd cc
past (x ∷ xs) (suc index) none less = past xs index none (omega (arith, less))

-- items from an index on, by the first of them
pub item-turn : (xs ys : List Item) (index : ℕ) (x y : Item) → slice_get xs index ≡ Some x → slice_get ys index ≡ Some y
    → is_none (first_other_item (drop index xs) (drop index ys))
    ≡ (same_item x y && is_none (first_other_item (drop (index + 1) xs) (drop (index + 1) ys)))
item-turn [] ys index x y is is' = absurd cc
item-turn (x' ∷ xs) [] index x y is is' = absurd cc
item-turn (x' ∷ xs) (y' ∷ ys) zero x y is is' =
    (λ i. is_none (first_other_item (same_Some x' x is i ∷ xs) (same_Some y' y is' i ∷ ys))) ∙ by_test (same_item x y) where
      by_test : (b : Bool) → is_none (cond b (option_map suc (first_other_item xs ys)) (Some 0)) ≡ (b && is_none (first_other_item xs ys))
      by_test true = none-later (first_other_item xs ys)
      by_test false = refl
item-turn (x' ∷ xs) (y' ∷ ys) (suc index) x y is is' =
    let next : suc index + 1 ≡ suc (index + 1) = omega arith in
    item-turn xs ys index x y is is'
    ∙ (λ i. same_item x y && is_none (first_other_item (drop (sym next i) (x' ∷ xs)) (drop (sym next i) (y' ∷ ys))))

-- ---- a stage's check

pub check-is : (recipe : RecipeContents) (all : Contents) (stage : Stage) (name : List ℕ) (source : Source) (language : Language) (made : List ℕ)
    → stage.check ≡ Some name → source_named recipe.sources name ≡ Some source → source.lang ≡ Defined language
    → check_of recipe all stage made ≡ check language source.base (joined_files (text_of recipe all source).files) made
unfolding check_of text_of
check-is recipe all stage name source language made named found defined_is =
    ap (λ o. source_check recipe all (option_and_then (source_named recipe.sources) o) made) named
    ∙ ap (λ o. source_check recipe all o made) found
    ∙ ap (λ l. text_check (text_of recipe all source) (defined l) made) defined_is
