-- An artefact that a check in M1 finds right is a text of hex2 with the items of the check's source.
use Rattle.std.proofs.Common.{◌≡◌, ℕ, suc, Bool, true, false, cond, Option, None, Some, Result, Ok, Err, List, [], ◌∷◌, refl, sym, ap, ap₂, ◌∙◌, subst}
use Rattle.std.specs.Prelude.{◌==◌, ◌&&◌, bytes_eq, option_and_then, option_map}
use Rattle.std.proofs.lemmas.Bool.{and_parts, eqb-true}
use Rattle.std.proofs.lemmas.Slice.Eq.{bytes_eq-Decides}
use Rattle.ddc_base.specs.declared.languages.Language.TheVariants.{M1}
use Rattle.hex_langs.specs.declared.items.item.Item.{Item}
use Rattle.hex_langs.specs.declared.items.item.Item.TheVariants as item
use Rattle.hex_langs.specs.declared.items.item.Kind.{Kind}
use Rattle.hex_langs.specs.declared.items.item.Kind.TheVariants.{I, B, J, U}
use Rattle.hex_langs.specs.declared.items.reader.HexRefusal.{HexRefusal}
use Rattle.hex_langs.specs.declared.items.token.Dialect.TheVariants.{Hex2}
use Rattle.hex_langs.specs.Items.Reading.{items_of}
use Rattle.m1_lang.specs.declared.refusal.M1Refusal.{M1Refusal}
use Rattle.m1_lang.specs.Expansion.{expansion_of}
use Rattle.recipe.specs.declared.contents.RecipeContents.{RecipeContents}
use Rattle.recipe.specs.declared.parts.Source.{Source}
use Rattle.recipe.specs.declared.parts.Stage.{Stage}
use Rattle.recipe.specs.Lookups.{source_named}
use Rattle.audit_rules.specs.SourceCheck.Checks.{check, checked, differs, first_other_item, items_against, joined_files, m1_value, same_item, same_kind}
use Rattle.audit_rules.specs.Contents.{Contents, SourceText, check_language, check_of, defined, source_check, text_check, text_of}
use Rattle.wheeler.specs.AllContents.{text_by, text_named}
use Rattle.wheeler.specs.Checked.{HasItemsOf}

same-kind : (j k : Kind) → same_kind j k ≡ true → j ≡ k
same-kind I I is = refl
same-kind B B is = refl
same-kind J J is = refl
same-kind U U is = refl
same-kind _ _ is = absurd cc

same-name : (x y : List ℕ) → bytes_eq x y ≡ true → x ≡ y
same-name x y is = (bytes_eq-Decides x y).0 is

same-item : (x y : Item) → same_item x y ≡ true → x ≡ y
unfolding same_item
same-item (item.Byte a) (item.Byte b) is = ap item.Byte (eqb-true a b is)
same-item (item.Label x) (item.Label y) is = ap item.Label (same-name x y is)
same-item (item.Word a j x) (item.Word b k y) is =
    let last = and_parts (a == b && same_kind j k) (bytes_eq x y) is in
    let both = and_parts (a == b) (same_kind j k) last.0 in
    λ i. item.Word (eqb-true a b both.0 i) (same-kind j k both.1 i) (same-name x y last.1 i)
same-item (item.Rel x) (item.Rel y) is = ap item.Rel (same-name x y is)
same-item (item.Gap x z) (item.Gap y w) is =
    let both = and_parts (bytes_eq x y) (bytes_eq z w) is in
    ap₂ item.Gap (same-name x y both.0) (same-name z w both.1)
same-item (item.Abs x) (item.Abs y) is = ap item.Abs (same-name x y is)
same-item item.Pad item.Pad is = refl
same-item _ _ is = absurd cc

pub no-other-item : (xs ys : List Item) → first_other_item xs ys ≡ None → xs ≡ ys
no-other-item [] [] is = refl
no-other-item [] (y ∷ ys) is = absurd cc
no-other-item (x ∷ xs) [] is = absurd cc
no-other-item (x ∷ xs) (y ∷ ys) is = by_test (same_item x y) refl is (no-other-item xs ys) where
  none_later : (o : Option ℕ) → option_map suc o ≡ None → o ≡ None
  none_later None is = refl
  none_later (Some k) is = absurd cc

  by_test : (b : Bool) → same_item x y ≡ b → cond b (option_map suc (first_other_item xs ys)) (Some 0) ≡ None → (first_other_item xs ys ≡ None → xs ≡ ys) → x ∷ xs ≡ y ∷ ys
  by_test true same is later = ap₂ (λ h t. h ∷ t) (same-item x y same) (later (none_later (first_other_item xs ys) is))
  by_test false same is later = absurd cc

right-items : (source : SourceText) (made : List ℕ) → text_check source (Some M1) made ≡ None → HasItemsOf source made
unfolding check
right-items source made is = by_source (expansion_of (joined_files source.files)) refl is where
  none_at : (o : Option ℕ) → differs o ≡ None → o ≡ None
  none_at None is = refl
  none_at (Some k) is = absurd cc

  by_text : (items : List Item) → expansion_of (joined_files source.files) ≡ Ok items → (found : Result (List Item) HexRefusal) → items_of Hex2 made ≡ found
      → items_against items found ≡ None → HasItemsOf source made
  by_text items expands (Err why) reads is = absurd cc
  by_text items expands (Ok found) reads is =
      let same : items ≡ found = no-other-item items found (none_at (first_other_item items found) is) in
      record { items = items; expands = expands; reads = reads ∙ ap Ok (sym same) }

  by_source : (meant : Result (List Item) M1Refusal) → expansion_of (joined_files source.files) ≡ meant → checked (m1_value meant) made ≡ None → HasItemsOf source made
  by_source (Err why) expands is = absurd cc
  by_source (Ok items) expands is = by_text items expands (items_of Hex2 made) refl is

pub checked-items : (recipe : RecipeContents) (all : Contents) (stage : Stage) (name made : List ℕ) → stage.check ≡ Some name → check_language recipe stage ≡ Some M1
    → check_of recipe all stage made ≡ None → HasItemsOf (text_named recipe all name) made
unfolding check_of check_language text_named text_of
checked-items recipe all stage name made was language right = by_source (source_named recipe.sources name) refl where
  by_source : (o : Option Source) → source_named recipe.sources name ≡ o → HasItemsOf (text_named recipe all name) made
  by_source None at =
      let no : check_language recipe stage ≡ None = ap (option_and_then (λ (s : Source). defined s.lang)) (ap (option_and_then (source_named recipe.sources)) was ∙ at) in
      let both : None ≡ Some M1 = sym no ∙ language in
      absurd cc
  by_source (Some source) at =
      let here : option_and_then (source_named recipe.sources) stage.check ≡ Some source = ap (option_and_then (source_named recipe.sources)) was ∙ at in
      let m1 : defined source.lang ≡ Some M1 = sym (ap (option_and_then (λ (s : Source). defined s.lang)) here) ∙ language in
      subst (λ o. HasItemsOf (text_by recipe all o) made) (sym at)
      (right-items (text_of recipe all source) made
      (ap (λ l. text_check (text_of recipe all source) l made) (sym m1) ∙ ap (λ o. source_check recipe all o made) (sym here) ∙ right))
