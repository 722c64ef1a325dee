-- The values that the languages' definitions alone compose from the texts of a recipe. No program runs here.
use Rattle.std.specs.Prelude.{◌≡◌, ℕ, zero, suc, true, bytes_eq, if◌then◌else◌, Option, None, Some, option_and_then, option_map, Result, Ok, Err, slice_get, length, List, [], ◌∷◌, map, get_or}
use Rattle.ddc_base.specs.declared.languages.Language.{Language}
use Rattle.ddc_base.specs.declared.languages.Language.TheVariants.{Hex2}
use Rattle.hex_langs.specs.declared.items.token.Dialect.TheVariants as dialect
use Rattle.hex_langs.specs.Items.Reading.{items_of}
use Rattle.hex_langs.specs.Link.Values.{linked}
use Rattle.recipe.specs.declared.contents.RecipeContents.{RecipeContents}
use Rattle.recipe.specs.declared.parts.Source.{Source}
use Rattle.recipe.specs.declared.parts.SourceLanguage.{SourceLanguage}
use Rattle.recipe.specs.declared.parts.SourceLanguage.TheVariants.{Defined, Other}
use Rattle.recipe.specs.declared.parts.Stage.{Stage}
use Rattle.recipe.specs.Lookups.{input_at, source_named}
use Rattle.audit_rules.specs.declared.source_check.cause.CheckCause.{CheckCause}
use Rattle.audit_rules.specs.SourceCheck.Checks.{SourceValue, ValueBytes, ValueItems, hex_value, joined_files, source_value_of}
use Rattle.audit_chain.specs.Rests.Walk.{meets, walk}

-- a list of bytes, with one more in front; None unless each value is bytes
abbrev pub bytes_first : Option SourceValue → Option (List (List ℕ)) → Option (List (List ℕ))
bytes_first None rest = None
bytes_first (Some (ValueItems items)) rest = None
bytes_first (Some (ValueBytes bytes)) rest = option_map (λ more. bytes ∷ more) rest

abbrev pub all_bytes : List (Option SourceValue) → Option (List (List ℕ))
all_bytes [] = Some []
all_bytes (value ∷ values) = bytes_first value (all_bytes values)

-- a value; None for a refusal
abbrev pub value_there : Result SourceValue CheckCause → Option SourceValue
value_there (Ok value) = Some value
value_there (Err why) = None

-- the value of a text that is these files, joined
abbrev pub of_bytes : Language → ℕ → Option (List (List ℕ)) → Option SourceValue
of_bytes language base files = option_and_then (λ bytes. value_there (source_value_of language base (joined_files bytes))) files

-- the value of a hex2 source of one file; items that an expansion gave are linked as they are
abbrev pub of_one : ℕ → Option SourceValue → Option SourceValue
of_one base None = None
of_one base (Some (ValueItems items)) = value_there (hex_value (linked base (Ok items)))
of_one base (Some (ValueBytes bytes)) = of_bytes Hex2 base (Some (bytes ∷ []))

-- the value of a source, from its files' values
abbrev pub of_files : SourceLanguage → ℕ → List (Option SourceValue) → Option SourceValue
of_files (Defined Hex2) base (value ∷ []) = of_one base value
of_files (Defined language) base values = of_bytes language base (all_bytes values)
of_files Other base values = None

abbrev pub of_source : (List ℕ → Option SourceValue) → Option Source → Option SourceValue
of_source earlier None = None
of_source earlier (Some source) = of_files source.lang source.base (map earlier source.files)

abbrev pub of_check : RecipeContents → (List ℕ → Option SourceValue) → Option (List ℕ) → Option SourceValue
of_check recipe earlier None = None
of_check recipe earlier (Some check) = of_source earlier (source_named recipe.sources check)

abbrev pub of_input : List (List ℕ) → Option ℕ → Option SourceValue
of_input inputs None = None
of_input inputs (Some index) = Some (ValueBytes (get_or inputs index []))

abbrev pub of_stage : RecipeContents → List ℕ → Option Stage → Option SourceValue → (List ℕ → Option SourceValue) → Option SourceValue
of_stage recipe name None before earlier = before
of_stage recipe name (Some stage) before earlier = if bytes_eq stage.name name then of_check recipe earlier stage.check else before

-- the value of a name: an input's bytes, or the value of a checked stage's source, composed from the values of the source's files
unfoldable pub composed_from : RecipeContents → List (List ℕ) → ℕ → List ℕ → Option SourceValue
composed_from recipe inputs zero name = of_input inputs (input_at recipe.inputs name)
composed_from recipe inputs (suc n) name =
    of_stage recipe name (slice_get recipe.stages n) (composed_from recipe inputs n name) (λ file. composed_from recipe inputs n file)

abbrev pub composed : RecipeContents → List (List ℕ) → List ℕ → Option SourceValue
composed recipe inputs name = composed_from recipe inputs (length recipe.stages) name

-- bytes have a value: they are these bytes, or a hex2 text with these items
abbrev pub HasValue : List ℕ → SourceValue → Type 0
HasValue made (ValueBytes bytes) = bytes ≡ made
HasValue made (ValueItems items) = items_of dialect.Hex2 made ≡ Ok items

pub record HasComposed (recipe : RecipeContents) (inputs : List (List ℕ)) (name made : List ℕ) : Type 0 where
  pub value : SourceValue
  pub is : composed recipe inputs name ≡ Some value
  pub has : HasValue made value

-- ---- two recipes

-- each stage's name and its check
abbrev pub checks_of : RecipeContents → List (List ℕ × Option (List ℕ))
checks_of recipe = map (λ (stage : Stage). (stage.name, stage.check)) recipe.stages

-- two recipes have the same sources and checks, and each name among the dependencies is in both the same input's bytes or not an input
pub record ChecksAlike (recipe other : RecipeContents) (inputs others : List (List ℕ)) (name : List ℕ) : Type 0 where
  pub sources : recipe.sources ≡ other.sources
  pub checks : checks_of recipe ≡ checks_of other
  pub texts : (n : List ℕ) → meets (walk recipe name) n ≡ true → of_input inputs (input_at recipe.inputs n) ≡ of_input others (input_at other.inputs n)

-- both have one value: they are the same bytes, or hex2 texts with the same items
pub record HaveOneValue (made other : List ℕ) : Type 0 where
  pub value : SourceValue
  pub one : HasValue made value
  pub two : HasValue other value
