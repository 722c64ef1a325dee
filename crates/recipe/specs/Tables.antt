-- The first walk: each table of a recipe with its keys in order (docs/reference/recipe.md, "Tables").
use Rattle.std.specs.Prelude.{ℕ, ◌+◌, ◌≡◌, ◌⊎◌, ◌==◌, Bool, ◌||◌, not, List, [], ◌∷◌, length, codes, bytes_eq, Option, Some, option_and_then, option_map, unwrap_or, Result, Ok, if◌then◌else◌}
use Rattle.std.specs.List.{list_any}
use Rattle.ddc_base.specs.Results.{◌>>=◌, ◌>>◌, error_unless, or_error}
use Rattle.toml.specs.Data.{Data, Members, get_member, as_str}
use Rattle.ddc_base.specs.Names.{name_of}
use Rattle.ddc_base.specs.Languages.Words.{language_named}
use Rattle.ddc_base.specs.Limits.{most_address, most_heap, most_steps, usual_heap}
use Rattle.mem_files.specs.Names.{stripped}
use Rattle.recipe.specs.Text.Keys.{key_word}
use Rattle.recipe.specs.Text.Reading.{gathered, a_text, a_name, a_path, a_word, a_number, a_table, an_array, a_list, path_of, required, optional, no_other_key}
use Rattle.recipe.specs.declared.text.keys.Key.{Key}
use Rattle.recipe.specs.declared.text.keys.Key.TheVariants as key
use Rattle.recipe.specs.declared.text.keys.Place.{Place}
use Rattle.recipe.specs.declared.text.keys.Table.TheVariants as table
use Rattle.recipe.specs.declared.text.refusal.RecipeRefusal.{RecipeRefusal}
use Rattle.recipe.specs.declared.text.refusal.RecipeRefusal.TheVariants.{Missing, BadName, DoubleName, BadPath}
use Rattle.recipe.specs.declared.parts.Compare.{Compare}
use Rattle.recipe.specs.declared.parts.Input.{Input}
use Rattle.recipe.specs.declared.parts.Output.{Output}
use Rattle.recipe.specs.declared.parts.Output.TheVariants.{Stream, File}
use Rattle.recipe.specs.declared.parts.Source.{Source}
use Rattle.recipe.specs.declared.parts.SourceLanguage.{SourceLanguage}
use Rattle.recipe.specs.declared.parts.SourceLanguage.TheVariants.{Defined, Other}
use Rattle.recipe.specs.declared.parts.Stage.{Stage}
use Rattle.recipe.specs.declared.parts.StageFile.{StageFile}

-- ---- places

abbrev pub top_place : Place
top_place = record { table = table.Top; number = 0 }

abbrev pub input_place : ℕ → Place
input_place number = record { table = table.Input; number = number }

abbrev pub source_place : ℕ → Place
source_place number = record { table = table.Source; number = number }

abbrev pub stage_place : ℕ → Place
stage_place number = record { table = table.Stage; number = number }

abbrev pub compare_place : Place
compare_place = record { table = table.Compare; number = 0 }

-- ---- top

-- a recipe is of format 1 or 2
abbrev pub IsFormat : ℕ → Type 0
IsFormat format = (format ≡ 1) ⊎ (format ≡ 2)

-- the tables of the top table
pub record Top : Type 0 where
  pub format : ℕ
  pub inputs : List Members
  pub sources : List Members
  pub stages : List Members
  pub compare : Members

unfoldable pub top_table : Members → Result Top RecipeRefusal
top_table table = do
  format ← required (a_number 1 2) top_place key.Format table
  inputs ← required (a_list a_table 1 256) top_place key.Input table
  sources ← optional (a_list a_table 0 256) top_place key.Source table
  stages ← required (a_list a_table 1 256) top_place key.Stage table
  compare ← required a_table top_place key.Compare table
  no_other_key top_place (key.Format ∷ key.Input ∷ key.Source ∷ key.Stage ∷ key.Compare ∷ []) table
  Ok (record { format = format; inputs = inputs; sources = unwrap_or sources []; stages = stages; compare = compare })

-- ---- names

abbrev pub is_input_name : List Input → List ℕ → Bool
is_input_name inputs name = list_any (λ input. bytes_eq input.name name) inputs

abbrev pub is_source_name : List Source → List ℕ → Bool
is_source_name sources name = list_any (λ source. bytes_eq source.name name) sources

abbrev pub is_stage_name : List Stage → List ℕ → Bool
is_stage_name stages name = list_any (λ stage. bytes_eq stage.name name) stages

-- whether a table above has the name
unfoldable pub is_taken : List Input → List Source → List Stage → List ℕ → Bool
is_taken inputs sources stages name = is_input_name inputs name || is_source_name sources name || is_stage_name stages name

-- a name that no table above has
unfoldable pub a_new_name : List Input → List Source → List Stage → Place → Key → Data → Result (List ℕ) RecipeRefusal
a_new_name inputs sources stages place key value = do
  name ← a_name place key value
  error_unless (DoubleName place key) (not (is_taken inputs sources stages name))
  Ok name

-- ---- an input

unfoldable pub input_table : List Input → Place → Members → Result Input RecipeRefusal
input_table inputs place table = do
  name ← required (a_new_name inputs [] []) place key.Name table
  path ← required a_path place key.Path table
  implements ← optional a_name place key.Implements table
  no_other_key place (key.Name ∷ key.Path ∷ key.Implements ∷ []) table
  Ok (record { name = name; path = path; implements = implements })

-- the input of a table that follows these inputs
abbrev pub next_input : List Input → Members → Result Input RecipeRefusal
next_input inputs table = input_table inputs (input_place (length inputs + 1)) table

-- ---- a source

-- the language that a word names
abbrev pub source_language : List ℕ → Option SourceLanguage
source_language word = if bytes_eq word (codes "other") then Some Other else option_map Defined (language_named word)

unfoldable pub a_language : Place → Key → Data → Result SourceLanguage RecipeRefusal
a_language place key value = do
  word ← a_text place key value
  or_error (BadName place key) (source_language word)

unfoldable pub source_table : List Input → List Source → Place → Members → Result Source RecipeRefusal
source_table inputs sources place table = do
  name ← required (a_new_name inputs sources []) place key.Name table
  lang ← required a_language place key.Lang table
  base ← optional (a_number 0 most_address) place key.Base table
  files ← required (a_list a_name 1 64) place key.Files table
  no_other_key place (key.Name ∷ key.Lang ∷ key.Base ∷ key.Files ∷ []) table
  Ok (record { name = name; lang = lang; base = unwrap_or base 6291456; files = files })

abbrev pub next_source : List Input → List Source → Members → Result Source RecipeRefusal
next_source inputs sources table = source_table inputs sources (source_place (length sources + 1)) table

-- ---- a stage

-- the path of a program's file: a text without a leading `./`
abbrev pub guest_path : List ℕ → Option (List ℕ)
guest_path text = path_of (stripped text)

abbrev pub is_file_path : List StageFile → List ℕ → Bool
is_file_path files path = list_any (λ file. bytes_eq file.path path) files

-- the string at a key of an entry of a stage's files; its refusal names the stage and the key `files`
abbrev pub entry_text : Place → Key → Key → Members → Result (List ℕ) RecipeRefusal
entry_text place key entry_key entry = or_error (Missing place key) (option_and_then as_str (get_member (key_word entry_key) entry))

-- the file of an entry that follows these files
unfoldable pub next_file : Place → Key → List StageFile → Data → Result StageFile RecipeRefusal
next_file place listed files value = do
  entry ← a_table place listed value
  path_text ← entry_text place listed key.Path entry
  from_text ← entry_text place listed key.From entry
  no_other_key place (key.Path ∷ key.From ∷ []) entry
  from ← or_error (BadName place listed) (name_of from_text)
  path ← or_error (BadPath place listed) (guest_path path_text)
  error_unless (DoubleName place listed) (not (is_file_path files path))
  Ok (record { path = path; from = from })

unfoldable pub some_files : Place → Key → Data → Result (List StageFile) RecipeRefusal
some_files place key value = do
  entries ← an_array 0 256 place key value
  gathered (next_file place key) [] entries

-- standard output if it is written `-`, otherwise a file of the program
abbrev pub output_parsed : List ℕ → Option Output
output_parsed text = if bytes_eq text (codes "-") then Some Stream else option_map File (guest_path text)

unfoldable pub an_output : Place → Key → Data → Result Output RecipeRefusal
an_output place key value = do
  text ← a_text place key value
  or_error (BadPath place key) (output_parsed text)

unfoldable pub stage_table : List Input → List Source → List Stage → Place → Members → Result Stage RecipeRefusal
stage_table inputs sources stages place table = do
  name ← required (a_new_name inputs sources stages) place key.Name table
  program ← required a_name place key.Program table
  args ← required (a_list a_word 1 64) place key.Args table
  env ← optional (a_list a_word 0 64) place key.Env table
  files ← optional some_files place key.Files table
  output ← required an_output place key.Output table
  steps ← required (a_number 1 most_steps) place key.Steps table
  heap ← optional (a_number 0 most_heap) place key.Heap table
  check ← optional a_name place key.Check table
  becomes ← optional a_name place key.Becomes table
  no_other_key place (key.Name ∷ key.Program ∷ key.Args ∷ key.Env ∷ key.Files ∷ key.Output ∷ key.Steps ∷ key.Heap ∷ key.Check ∷ key.Becomes ∷ []) table
  Ok (record {
    name = name;
    program = program;
    args = args;
    env = unwrap_or env [];
    files = unwrap_or files [];
    output = output;
    steps = steps;
    heap = unwrap_or heap usual_heap;
    check = check;
    becomes = becomes;
  })

abbrev pub next_stage : List Input → List Source → List Stage → Members → Result Stage RecipeRefusal
next_stage inputs sources stages table = stage_table inputs sources stages (stage_place (length stages + 1)) table

-- ---- compare

-- the key under which a recipe of a format names the stages that it compares
abbrev pub stages_key : ℕ → Key
stages_key format = if format == 1 then key.Stage else key.Stages

abbrev pub is_among : List (List ℕ) → List ℕ → Bool
is_among names name = list_any (λ other. bytes_eq other name) names

-- a name that is not among these
unfoldable pub next_stage_name : Place → Key → List (List ℕ) → Data → Result (List ℕ) RecipeRefusal
next_stage_name place key names value = do
  name ← a_name place key value
  error_unless (DoubleName place key) (not (is_among names name))
  Ok name

-- 1 to 16 names without repetition
unfoldable pub some_stage_names : Place → Key → Data → Result (List (List ℕ)) RecipeRefusal
some_stage_names place key value = do
  values ← an_array 1 16 place key value
  gathered (next_stage_name place key) [] values

-- the one stage of format 1
abbrev pub one_stage : Members → Result (List (List ℕ)) RecipeRefusal
one_stage table = do
  stage ← required a_name compare_place key.Stage table
  Ok (stage ∷ [])

-- the stages that are compared: one in format 1, 1 to 16 in format 2
unfoldable pub compared_stages : ℕ → Members → Result (List (List ℕ)) RecipeRefusal
compared_stages format table = if format == 1 then one_stage table else required some_stage_names compare_place key.Stages table

unfoldable pub compare_table : ℕ → Members → Result Compare RecipeRefusal
compare_table format table = do
  stages ← compared_stages format table
  binary ← required a_name compare_place key.Binary table
  no_other_key compare_place (stages_key format ∷ key.Binary ∷ []) table
  Ok (record { stages = stages; binary = binary })
