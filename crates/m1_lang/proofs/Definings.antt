-- What one definition does to the table.
use Rattle.std.proofs.Common.{◌≡◌, ℕ, Bool, true, false, cond, not, List, [], ◌∷◌, ◌++◌, refl, sym, ap, ◌∙◌, Option, Some, None, is_some, true≢false, Result, Ok, Err}
use Rattle.std.proofs.lemmas.Cmp.{nat_list_eq_equiv}
use Rattle.std.proofs.lemmas.Slice.Eq.{bytes_eq-Decides}
use Rattle.std.specs.Prelude.{bytes_eq}
use Rattle.m1_lang.specs.Words.Words.{Found, open_quote, Word, Words, word_list, words_of}
use Rattle.m1_lang.specs.Words.Ahead.{words_at}
use Rattle.m1_lang.specs.declared.refusal.M1Refusal.{M1Refusal}
use Rattle.m1_lang.specs.declared.refusal.M1Refusal.TheVariants as refusal
use Rattle.m1_lang.specs.Definitions.{Cut, Defined, Defines, definitions, definitions_in, is_value, SourcePart, parts, Plain, unless_open, value_in, with_defined}
use Rattle.m1_lang.specs.Representation.Passes.{after_define, Definitions, DefinesOne, Enters, looked_up, open_at, or_value, parts_at, quote_or, Tabulates, unless_quoted, valued, Values, values_in, with_values}
use Rattle.m1_lang.proofs.Moves.{look-more}

-- the definitions by what they give words
pub valued-is : (parts : List SourcePart) (seen : Defined) → looked_up (definitions seen parts) ≡ valued (value_in seen) parts
valued-is [] seen = refl
valued-is (Defines at name value ∷ rest) seen = by (is_value value) (is_some (value_in seen name)) (valued-is rest (seen ++ (name, value) ∷ []))
  where
    by : (good again : Bool) → looked_up (definitions (seen ++ (name, value) ∷ []) rest) ≡ valued (value_in (seen ++ (name, value) ∷ [])) rest
        → looked_up (with_defined (cond (not good) (Err (refusal.BadDefine at)) (cond again (Err (refusal.DoubleDefine at)) (Ok (seen ++ (name, value) ∷ [])))) (λ m. definitions m rest))
        ≡ with_values (cond (not good) (Err (refusal.BadDefine at)) (cond again (Err (refusal.DoubleDefine at)) (Ok (λ text. or_value (value_in seen text) (cond (bytes_eq text name) (Some value) None))))) (λ m. valued m rest)
    by true true later = refl
    by true false later = later ∙ (λ i. valued (λ text. look-more seen name value text i) rest)
    by false again later = refl
valued-is (Cut at ∷ rest) seen = refl
valued-is (Plain word ∷ rest) seen = valued-is rest seen

-- what the table gives words after a new name
added : (old new : Definitions) (name value : List ℕ) → values_in old name ≡ None
    → ((text : List ℕ) → values_in new text ≡ cond (bytes_eq name text) (Some value) (values_in old text))
    → values_in new ≡ (λ text. or_value (values_in old text) (cond (bytes_eq text name) (Some value) None))
added old new name value none found =
    λ i text. (found text ∙ ap (λ (t : Bool). cond t (Some value) (values_in old text)) (nat_list_eq_equiv.symm name text)
    ∙ by text (bytes_eq text name) refl (values_in old text) refl) i
  where
    by : (text : List ℕ) (test : Bool) → bytes_eq text name ≡ test → (before : Option (List ℕ)) → values_in old text ≡ before
        → cond test (Some value) before ≡ or_value before (cond test (Some value) None)
    by text test is None before = refl
    by text false is (Some other) before = refl
    by text true is (Some other) before =
        let same : text ≡ name = (bytes_eq-Decides text name).0 is in
        absurd (cc (ap (values_in old) same, none))

-- after a good value the name decides
following-good : (values : Values) (start : ℕ) (name value : Word) (rest : List Word) (before : Option (List ℕ)) → is_value value.text ≡ true
    → values name.text ≡ before
    → after_define values start (name ∷ value ∷ rest)
    ≡ with_values (cond (is_some before) (Err (refusal.DoubleDefine start)) (Ok (λ text. or_value (values text) (cond (bytes_eq text name.text) (Some value.text) None)))) (λ more. valued more (parts rest))
following-good values start name value rest before good is =
    ap (λ (b : Bool). with_values (cond (not b) (Err (refusal.BadDefine start)) (cond (is_some (values name.text)) (Err (refusal.DoubleDefine start)) (Ok (λ text. or_value (values text) (cond (bytes_eq text name.text) (Some value.text) None))))) (λ more. valued more (parts rest))) good
    ∙ ap (λ (o : Option (List ℕ)). with_values (cond (is_some o) (Err (refusal.DoubleDefine start)) (Ok (λ text. or_value (values text) (cond (bytes_eq text name.text) (Some value.text) None)))) (λ more. valued more (parts rest))) is

-- the two words after a `DEFINE`
two-words : (values : Values) (source : List ℕ) (start at next after : ℕ) (name value : Word)
    → words_at source at ≡ Found name (words_at source next) → words_at source next ≡ Found value (words_at source after)
    → after_define values start (word_list (words_at source at)) ≡ after_define values start (name ∷ value ∷ word_list (words_at source after))
two-words values source start at next after name value first second =
    ap (λ (w : Words). after_define values start (word_list w)) first ∙ ap (λ (w : Words). after_define values start (name ∷ word_list w)) second

none-of : (o : Option (List ℕ)) → is_some o ≡ false → o ≡ None
none-of None is = refl
none-of (Some value) is = absurd (true≢false is)

pub defines-new : (E : Type 0) (old new : Definitions) (source : List ℕ) (start at next after : ℕ) (name value : Word)
    → words_at source at ≡ Found name (words_at source next) → words_at source next ≡ Found value (words_at source after)
    → is_value value.text ≡ true → Enters {E = E} (Ok false) name.text value.text old new
    → (after_define (values_in old) start (word_list (words_at source at)) ≡ valued (values_in new) (parts_at source after))
    × (open_at source at ≡ open_at source after)
defines-new E old new source start at next after name value first second good enters =
    let none = none-of (values_in old name.text) (sym enters.0) in (
      two-words (values_in old) source start at next after name value first second
          ∙ following-good (values_in old) start name value (word_list (words_at source after)) None good none
          ∙ ap (λ (v : Values). valued v (parts_at source after)) (sym (added old new name.text value.text none enters.1)),
      ap open_quote first ∙ ap open_quote second,
    )

-- what the whole is, by what is left
pub meant-by : (values : Values) (source : List ℕ) (at : ℕ) (words : Words) → open_at source 0 ≡ open_at source at
    → valued (λ text. None) (parts_at source 0) ≡ valued values (parts_at source at) → words_at source at ≡ words
    → looked_up (definitions_in (words_of source)) ≡ unless_quoted (open_quote words) (valued values (parts (word_list words)))
meant-by values source at words quote whole is =
    by (open_at source 0) (definitions [] (parts_at source 0))
    ∙ ap (λ (o : Option ℕ). unless_quoted o (looked_up (definitions [] (parts_at source 0)))) quote
    ∙ ap (unless_quoted (open_at source at)) (valued-is (parts_at source 0) [] ∙ whole)
    ∙ ap (λ (w : Words). unless_quoted (open_quote w) (valued values (parts (word_list w)))) is
  where
    by : (quote : Option ℕ) (meant : Result Defined M1Refusal) → looked_up (unless_open quote meant) ≡ unless_quoted quote (looked_up meant)
    by (Some offset) meant = refl
    by None meant = refl

-- a definition is refused, unless a quote is open after it
pub refused : (quote : Option ℕ) (why : M1Refusal) (start at : ℕ) (source : List ℕ) (old new : Definitions)
    (meant : Result Defined M1Refusal) → looked_up meant ≡ unless_quoted quote (after_define (values_in old) start (word_list (words_at source at)))
    → DefinesOne (Err why) start source at old new → Tabulates (Err (quote_or quote why)) meant
refused (Some offset) why start at source old new meant is one = is
refused None refusal.OutOfMemory start at source old new meant is one = tt
refused None (refusal.BadDefine offset) start at source old new meant is one = is ∙ one
refused None (refusal.DoubleDefine offset) start at source old new meant is one = is ∙ one
refused None (refusal.OpenString offset) start at source old new meant is one = is ∙ one
refused None (refusal.UnknownWord offset) start at source old new meant is one = is ∙ one
refused None (refusal.NumberRange offset) start at source old new meant is one = is ∙ one
refused None (refusal.Dangling offset) start at source old new meant is one = is ∙ one
refused None refusal.TooLong start at source old new meant is one = is ∙ one
