-- An artefact that a check in hex0, hex1 or hex2 finds right is the value of the check's source.
use Rattle.std.proofs.Common.{◌≡◌, ◌≢◌, ℕ, suc, ◌==◌, Bool, true, false, cond, Option, None, Some, Result, Ok, Err, List, [], ◌∷◌, refl, sym, ap, ap₂, ◌∙◌}
use Rattle.std.specs.Prelude.{option_and_then, option_map}
use Rattle.std.proofs.lemmas.Bool.{eqb-true}
use Rattle.std.proofs.lemmas.Option.{cond_some}
use Rattle.ddc_base.specs.Difference.{first_difference}
use Rattle.ddc_base.proofs.Differences.{first_difference-same}
use Rattle.ddc_base.specs.declared.languages.Language.{Language}
use Rattle.ddc_base.specs.declared.languages.Language.TheVariants.{Hex0, Hex1, Hex2, M1}
use Rattle.hex_langs.specs.Hex0.{hex0_of}
use Rattle.hex_langs.specs.declared.items.reader.HexRefusal.{HexRefusal}
use Rattle.hex_langs.specs.declared.items.token.Dialect.TheVariants as dialect
use Rattle.hex_langs.specs.Items.Reading.{items_of}
use Rattle.hex_langs.specs.Link.Values.{linked}
use Rattle.recipe.specs.declared.contents.RecipeContents.{RecipeContents}
use Rattle.recipe.specs.declared.parts.Source.{Source}
use Rattle.recipe.specs.declared.parts.SourceLanguage.{SourceLanguage}
use Rattle.recipe.specs.declared.parts.SourceLanguage.TheVariants.{Defined, Other}
use Rattle.recipe.specs.declared.parts.Stage.{Stage}
use Rattle.recipe.specs.Lookups.{hex_check, is_hex, source_named}
use Rattle.audit_rules.specs.SourceCheck.Checks.{check, checked, differs, hex_value, joined_files, source_value_of}
use Rattle.audit_rules.specs.Contents.{Contents, SourceText, check_of, defined, source_check, text_check, text_of}
use Rattle.wheeler.specs.AllContents.{text_by, text_named}
use Rattle.wheeler.specs.Values.{binary_in, binary_of, bytes_of_value}

pub no-difference : (a b : List ℕ) → first_difference a b ≡ None → a ≡ b
no-difference [] [] is = refl
no-difference [] (y ∷ ys) is = absurd cc
no-difference (x ∷ xs) [] is = absurd cc
no-difference (x ∷ xs) (y ∷ ys) is = by_test (x == y) refl is (no-difference xs ys) where
  none_later : (o : Option ℕ) → option_map suc o ≡ None → o ≡ None
  none_later None is = refl
  none_later (Some k) is = absurd cc

  by_test : (b : Bool) → (x == y) ≡ b → cond b (option_map suc (first_difference xs ys)) (Some 0) ≡ None → (first_difference xs ys ≡ None → xs ≡ ys) → x ∷ xs ≡ y ∷ ys
  by_test true same is later = ap₂ (λ h t. h ∷ t) (eqb-true x y same) (later (none_later (first_difference xs ys) is))
  by_test false same is later = absurd cc

pub some-difference : (a b : List ℕ) (offset : ℕ) → first_difference a b ≡ Some offset → a ≢ b
some-difference a b offset is same =
    let none : first_difference a b ≡ None = ap (first_difference a) (sym same) ∙ first_difference-same a in
    absurd cc

nothing-wrong : (o : Option ℕ) → differs o ≡ None → o ≡ None
nothing-wrong None is = refl
nothing-wrong (Some k) is = absurd cc

right-bytes : (value made : List ℕ) → differs (first_difference value made) ≡ None → value ≡ made
right-bytes value made is = no-difference value made (nothing-wrong (first_difference value made) is)

right-linked : (meant : Result (List ℕ) HexRefusal) (made : List ℕ) → checked (hex_value meant) made ≡ None → bytes_of_value (hex_value meant) ≡ Some made
right-linked (Ok bytes) made is = ap Some (right-bytes bytes made is)
right-linked (Err why) made is = absurd cc

right-value : (language : Language) (base : ℕ) (source made : List ℕ) → is_hex (Defined language) ≡ true → check language base source made ≡ None
    → bytes_of_value (source_value_of language base source) ≡ Some made
unfolding check
right-value Hex0 base source made hex is = ap Some (right-bytes (hex0_of source) made is)
right-value Hex1 base source made hex is = right-linked (linked base (items_of dialect.Hex1 source)) made is
right-value Hex2 base source made hex is = right-linked (linked base (items_of dialect.Hex2 source)) made is
right-value M1 base source made hex is = absurd cc

right-text : (text : SourceText) (lang : SourceLanguage) (made : List ℕ) → is_hex lang ≡ true → text_check text (defined lang) made ≡ None
    → binary_in lang text.base text.files ≡ Some made
right-text text (Defined language) made hex is = right-value language text.base (joined_files text.files) made hex is
right-text text Other made hex is = absurd cc

-- the source of a check in hex0, hex1 or hex2
record HexSource (sources : List Source) (name found : List ℕ) : Type 0 where
  source : Source
  named : source_named sources name ≡ Some source
  hex : is_hex source.lang ≡ true
  same : name ≡ found

hex-source : (sources : List Source) (name found : List ℕ) → hex_check sources name ≡ Some found → HexSource sources name found
hex-source sources name found is = by_source (source_named sources name) refl is where
  by_source : (o : Option Source) → source_named sources name ≡ o → option_and_then (λ (source : Source). cond (is_hex source.lang) (Some name) None) o ≡ Some found
      → HexSource sources name found
  by_source None at is = absurd cc
  by_source (Some source) at is =
      let parts = cond_some (is_hex source.lang) name found is in
      record { source = source; named = at; hex = parts.0; same = parts.1 }

pub checked-value : (recipe : RecipeContents) (all : Contents) (stage : Stage) (check found made : List ℕ) → stage.check ≡ Some check → hex_check recipe.sources check ≡ Some found
    → check_of recipe all stage made ≡ None → binary_of (text_named recipe all found) ≡ Some made
unfolding check_of binary_of text_named text_of
checked-value recipe all stage check found made was is right =
    let s = hex-source recipe.sources check found is in
    let at : option_and_then (source_named recipe.sources) stage.check ≡ Some s.source = ap (option_and_then (source_named recipe.sources)) was ∙ s.named in
    let own : source_named recipe.sources found ≡ Some s.source = ap (source_named recipe.sources) (sym s.same) ∙ s.named in
    ap (λ o. binary_of (text_by recipe all o)) own
    ∙ right-text (text_of recipe all s.source) s.source.lang made s.hex (ap (λ o. source_check recipe all o made) (sym at) ∙ right)
