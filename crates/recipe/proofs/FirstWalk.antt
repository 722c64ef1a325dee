-- What the first walk tells of each table that it read.
use Rattle.std.proofs.Common.{◌≡◌, ℕ, ◌≤◌, ◌^◌, true, List, [], ◌∷◌, ◌++◌, length, map, Option, Some, None, Ok, subst, ◌∙◌, arith}
use Rattle.std.specs.Prelude.{bytes_eq, IfSome, not, unwrap_or}
use Rattle.std.specs.List.{IsDistinct}
use Rattle.std.proofs.lemmas.List.{map_push}
use Rattle.ddc_base.specs.Results.{error_unless, or_error}
use Rattle.toml.specs.Data.{Data, Members}
use Rattle.ddc_base.specs.Names.{IsName, name_of}
use Rattle.ddc_base.specs.Limits.{most_address, most_heap, most_steps, usual_heap}
use Rattle.recipe.specs.declared.text.keys.Key.{Key}
use Rattle.recipe.specs.declared.text.keys.Key.TheVariants as key
use Rattle.recipe.specs.declared.text.keys.Place.{Place}
use Rattle.recipe.specs.declared.text.refusal.RecipeRefusal.TheVariants.{BadName, BadPath, DoubleName}
use Rattle.recipe.specs.Text.Reading.{is_path, a_text, a_name, a_path, is_word, a_word, a_number, a_table, an_array, a_list, required, optional, no_other_key}
use Rattle.recipe.proofs.TextLemmas.Accepted.{bound, ok_same, or_ok, unless_ok, bind_unless, required_ok, optional_ok, name_ok, path_ok, word_ok, number_ok, list_ok, array_ok, gathered_each, gathered_keeps, gathered_length, Few, At, Read}
use Rattle.recipe.specs.declared.parts.Input.{Input}
use Rattle.recipe.specs.declared.parts.Output.{Output}
use Rattle.recipe.specs.declared.parts.Source.{Source}
use Rattle.recipe.specs.declared.parts.Stage.{Stage}
use Rattle.recipe.specs.declared.parts.StageFile.{StageFile}
use Rattle.recipe.specs.Kept.{IsGuestPath, IsOutput}
use Rattle.recipe.specs.Tables.{is_taken, a_new_name, input_table, a_language, source_table, guest_path, is_file_path, entry_text, next_file, some_files, output_parsed, an_output, stage_table}
use Rattle.recipe.proofs.GuestPaths.{guest_path_ok, output_ok}
use Rattle.recipe.proofs.DistinctNames.{not_false, distinct_push, any_map}

-- ---- a new name

pub record NewName (inputs : List Input) (sources : List Source) (stages : List Stage) (name : List ℕ) : Type 0 where
  pub is_name : IsName name
  pub is_new : not (is_taken inputs sources stages name) ≡ true

new_name_ok : (inputs : List Input) (sources : List Source) (stages : List Stage) (place : Place) (table : Members) (name : List ℕ)
    → required (a_new_name inputs sources stages) place key.Name table ≡ Ok name → NewName inputs sources stages name
unfolding a_new_name
new_name_ok inputs sources stages place table name e =
    let at = required_ok (a_new_name inputs sources stages) place key.Name table name e in
    let a = bind_unless (a_name place key.Name at.0) (DoubleName place key.Name) (λ name. not (is_taken inputs sources stages name)) name at.1 in
    record { is_name = name_ok place key.Name at.0 name a.0; is_new = a.1 }

-- ---- an input

pub record InputParsed (inputs : List Input) (input : Input) : Type 0 where
  pub name : NewName inputs [] [] input.name
  pub path : is_path input.path ≡ true

pub input_parsed : (inputs : List Input) (place : Place) (table : Members) (input : Input) → input_table inputs place table ≡ Ok input → InputParsed inputs input
unfolding input_table
input_parsed inputs place table input e =
    bound _ (required (a_new_name inputs [] []) place key.Name table) _ input e (λ name name_is rest1.
    bound _ (required a_path place key.Path table) _ input rest1 (λ path path_is rest2.
    bound _ (optional a_name place key.Implements table) _ input rest2 (λ implements implements_is rest3.
    bound _ (no_other_key place (key.Name ∷ key.Path ∷ key.Implements ∷ []) table) _ input rest3 (λ other closed_is rest4.
    let path_at = required_ok a_path place key.Path table path path_is in
    subst (InputParsed inputs) (ok_same (record { name = name; path = path; implements = implements }) input rest4)
    (record { name = new_name_ok inputs [] [] place table name name_is; path = path_ok place key.Path path_at.0 path path_at.1 })))))

-- ---- a source

pub record SourceParsed (inputs : List Input) (sources : List Source) (source : Source) : Type 0 where
  pub name : NewName inputs sources [] source.name
  pub base : source.base ≤ most_address
  pub files : Few 1 64 (length source.files)

base_ok : (place : Place) (base : Option ℕ) → IfSome base (Read (a_number 0 most_address) place key.Base) → unwrap_or base 6291456 ≤ most_address
base_ok place None read = omega arith
base_ok place (Some base) read = (number_ok 0 most_address place key.Base read.0 base read.1).1

pub source_parsed : (inputs : List Input) (sources : List Source) (place : Place) (table : Members) (source : Source)
    → source_table inputs sources place table ≡ Ok source → SourceParsed inputs sources source
unfolding source_table
source_parsed inputs sources place table source e =
    bound _ (required (a_new_name inputs sources []) place key.Name table) _ source e (λ name name_is rest1.
    bound _ (required a_language place key.Lang table) _ source rest1 (λ lang lang_is rest2.
    bound _ (optional (a_number 0 most_address) place key.Base table) _ source rest2 (λ base base_is rest3.
    bound _ (required (a_list a_name 1 64) place key.Files table) _ source rest3 (λ files files_is rest4.
    bound _ (no_other_key place (key.Name ∷ key.Lang ∷ key.Base ∷ key.Files ∷ []) table) _ source rest4 (λ other closed_is rest5.
    let files_at = required_ok (a_list a_name 1 64) place key.Files table files files_is in
    subst (SourceParsed inputs sources) (ok_same (record { name = name; lang = lang; base = unwrap_or base 6291456; files = files }) source rest5)
    (record {
      name = new_name_ok inputs sources [] place table name name_is;
      base = base_ok place base (optional_ok (a_number 0 most_address) place key.Base table base base_is);
      files = (list_ok a_name 1 64 place key.Files files_at.0 files files_at.1).0;
    }))))))

-- ---- the files of a stage

record FileParsed (files : List StageFile) (file : StageFile) : Type 0 where
  path : IsGuestPath file.path
  is_new : not (is_file_path files file.path) ≡ true

file_parsed : (place : Place) (files : List StageFile) (value : Data) (file : StageFile) → next_file place key.Files files value ≡ Ok file → FileParsed files file
unfolding next_file
file_parsed place files value file e =
    bound _ (a_table place key.Files value) _ file e (λ entry entry_is rest1.
    bound _ (entry_text place key.Files key.Path entry) _ file rest1 (λ path_text path_text_is rest2.
    bound _ (entry_text place key.Files key.From entry) _ file rest2 (λ from_text from_text_is rest3.
    bound _ (no_other_key place (key.Path ∷ key.From ∷ []) entry) _ file rest3 (λ other closed_is rest4.
    bound _ (or_error (BadName place key.Files) (name_of from_text)) _ file rest4 (λ from from_is rest5.
    bound _ (or_error (BadPath place key.Files) (guest_path path_text)) _ file rest5 (λ path path_is rest6.
    bound _ (error_unless (DoubleName place key.Files) (not (is_file_path files path))) _ file rest6 (λ new new_is rest7.
    subst (FileParsed files) (ok_same (record { path = path; from = from }) file rest7)
    (record {
      path = guest_path_ok path_text path (or_ok (BadPath place key.Files) (guest_path path_text) path path_is);
      is_new = unless_ok (DoubleName place key.Files) (not (is_file_path files path)) new new_is;
    }))))))))

pub record FilesParsed (files : List StageFile) : Type 0 where
  pub few : length files ≤ 256
  pub paths : At (λ file. IsGuestPath file.path) files
  pub distinct : IsDistinct bytes_eq (map (λ file. file.path) files)

distinct_files : (place : Place) (before : List StageFile) (value : Data) (file : StageFile) → IsDistinct bytes_eq (map (λ file. file.path) before)
    → next_file place key.Files before value ≡ Ok file → IsDistinct bytes_eq (map (λ file. file.path) (before ++ file ∷ []))
distinct_files place before value file distinct e =
    let path : StageFile → List ℕ = λ file. file.path in
    let parsed = file_parsed place before value file e in
    rw (map_push path before file) (distinct_push (map path before) file.path distinct
    (any_map path file.path before ∙ not_false (is_file_path before file.path) parsed.is_new))

files_parsed : (place : Place) (value : Data) (files : List StageFile) → some_files place key.Files value ≡ Ok files → FilesParsed files
unfolding some_files IsDistinct
files_parsed place value files e =
    bound _ (an_array 0 256 place key.Files value) _ files e (λ entries entries_is rest.
    let few = array_ok 0 256 place key.Files value entries entries_is in
    let long = gathered_length (next_file place key.Files) [] entries files rest in
    record {
      few = omega (arith, few.few, long);
      paths = gathered_each (λ file. IsGuestPath file.path) (next_file place key.Files) entries files (λ before x file is. (file_parsed place before x file is).path) rest;
      distinct = gathered_keeps (λ files. IsDistinct bytes_eq (map (λ file. file.path) files)) (next_file place key.Files) [] entries files (distinct_files place) tt rest;
    })

-- ---- a stage

pub record StageParsed (inputs : List Input) (sources : List Source) (stages : List Stage) (stage : Stage) : Type 0 where
  pub name : NewName inputs sources stages stage.name
  pub some_args : 1 ≤ length stage.args
  pub few_args : length stage.args ≤ 64
  pub args : At (λ text. is_word text ≡ true) stage.args
  pub few_env : length stage.env ≤ 64
  pub env : At (λ text. is_word text ≡ true) stage.env
  pub files : FilesParsed stage.files
  pub output : IsOutput stage.output
  pub some_steps : 1 ≤ stage.steps
  pub few_steps : stage.steps ≤ most_steps
  pub heap : stage.heap ≤ most_heap

words_ok : (least most : ℕ) (place : Place) (k : Key) (value : Data) (words : List (List ℕ)) → a_list a_word least most place k value ≡ Ok words
    → Few least most (length words) × At (λ text. is_word text ≡ true) words
words_ok least most place k value words e =
    let list = list_ok a_word least most place k value words e in
    (list.0, λ i text is. let read = list.1 i text is in word_ok place k read.0 text read.1)

env_ok : (place : Place) (env : Option (List (List ℕ))) → IfSome env (Read (a_list a_word 0 64) place key.Env)
    → (length (unwrap_or env []) ≤ 64) × At (λ text. is_word text ≡ true) (unwrap_or env [])
env_ok place None read = (omega arith, λ i x e. absurd cc)
env_ok place (Some env) read = let words = words_ok 0 64 place key.Env read.0 env read.1 in (words.0.few, words.1)

optional_files_ok : (place : Place) (files : Option (List StageFile)) → IfSome files (Read some_files place key.Files) → FilesParsed (unwrap_or files [])
unfolding IsDistinct
optional_files_ok place None read = record { few = omega arith; paths = λ i x e. absurd cc; distinct = tt }
optional_files_ok place (Some files) read = files_parsed place read.0 files read.1

heap_ok : (place : Place) (heap : Option ℕ) → IfSome heap (Read (a_number 0 most_heap) place key.Heap) → unwrap_or heap usual_heap ≤ most_heap
heap_ok place None read = omega arith
heap_ok place (Some heap) read = (number_ok 0 most_heap place key.Heap read.0 heap read.1).1

an_output_ok : (place : Place) (value : Data) (output : Output) → an_output place key.Output value ≡ Ok output → IsOutput output
unfolding an_output
an_output_ok place value output e =
    bound _ (a_text place key.Output value) _ output e (λ text text_is rest. output_ok text output (or_ok (BadPath place key.Output) (output_parsed text) output rest))

pub stage_parsed : (inputs : List Input) (sources : List Source) (stages : List Stage) (place : Place) (table : Members) (stage : Stage)
    → stage_table inputs sources stages place table ≡ Ok stage → StageParsed inputs sources stages stage
unfolding stage_table
stage_parsed inputs sources stages place table stage e =
    bound _ (required (a_new_name inputs sources stages) place key.Name table) _ stage e (λ name name_is rest1.
    bound _ (required a_name place key.Program table) _ stage rest1 (λ program program_is rest2.
    bound _ (required (a_list a_word 1 64) place key.Args table) _ stage rest2 (λ args args_is rest3.
    bound _ (optional (a_list a_word 0 64) place key.Env table) _ stage rest3 (λ env env_is rest4.
    bound _ (optional some_files place key.Files table) _ stage rest4 (λ files files_is rest5.
    bound _ (required an_output place key.Output table) _ stage rest5 (λ output output_is rest6.
    bound _ (required (a_number 1 most_steps) place key.Steps table) _ stage rest6 (λ steps steps_is rest7.
    bound _ (optional (a_number 0 most_heap) place key.Heap table) _ stage rest7 (λ heap heap_is rest8.
    bound _ (optional a_name place key.Check table) _ stage rest8 (λ check check_is rest9.
    bound _ (optional a_name place key.Becomes table) _ stage rest9 (λ becomes becomes_is rest10.
    bound _ (no_other_key place (key.Name ∷ key.Program ∷ key.Args ∷ key.Env ∷ key.Files ∷ key.Output ∷ key.Steps ∷ key.Heap ∷ key.Check ∷ key.Becomes ∷ []) table) _ stage rest10 (λ other closed_is rest11.
    let args_at = required_ok (a_list a_word 1 64) place key.Args table args args_is in
    let words = words_ok 1 64 place key.Args args_at.0 args args_at.1 in
    let texts = env_ok place env (optional_ok (a_list a_word 0 64) place key.Env table env env_is) in
    let output_at = required_ok an_output place key.Output table output output_is in
    let steps_at = required_ok (a_number 1 most_steps) place key.Steps table steps steps_is in
    let limits = number_ok 1 most_steps place key.Steps steps_at.0 steps steps_at.1 in
    subst (StageParsed inputs sources stages)
    (ok_same
    (record {
      name = name;
      program = program;
      args = args;
      env = unwrap_or env [];
      files = unwrap_or files [];
      output = output;
      steps = steps;
      heap = unwrap_or heap usual_heap;
      check = check;
      becomes = becomes;
    }) stage rest11)
    (record {
      name = new_name_ok inputs sources stages place table name name_is;
      some_args = words.0.some;
      few_args = words.0.few;
      args = words.1;
      few_env = texts.0;
      env = texts.1;
      files = optional_files_ok place files (optional_ok some_files place key.Files table files files_is);
      output = an_output_ok place output_at.0 output output_at.1;
      some_steps = limits.0;
      few_steps = limits.1;
      heap = heap_ok place heap (optional_ok (a_number 0 most_heap) place key.Heap table heap heap_is);
    }))))))))))))
