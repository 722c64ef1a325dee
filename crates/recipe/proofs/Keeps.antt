-- What both walks accept is a recipe.
use Rattle.std.proofs.Common.{◌≡◌, ℕ, ◌+◌, ◌≤◌, Bool, true, false, cond, inl, inr, List, [], ◌∷◌, ◌++◌, length, take, Option, Some, None, Ok, refl, subst, arith, Result, Err, ap, ◌∙◌}
use Rattle.std.specs.Prelude.{not, ◌==◌, IfSome, bytes_eq, slice_get, unwrap_or}
use Rattle.std.specs.List.{IsDistinct}
use Rattle.ddc_base.specs.Results.{◌>>◌}
use Rattle.sha2.specs.Sha256.{sha256}
use Rattle.toml.specs.Data.{Data, Members}
use Rattle.std.proofs.lemmas.Bool.{cases_lt}
use Rattle.recipe.specs.declared.text.refusal.RecipeRefusal.TheVariants.{DoubleName}
use Rattle.recipe.specs.declared.parts.Compare.{Compare}
use Rattle.recipe.specs.declared.text.keys.Key.TheVariants as key
use Rattle.recipe.specs.Text.Reading.{a_list, a_name, an_array, a_number, a_table, no_other_key, document_of, gathered, optional, required}
use Rattle.recipe.proofs.TextLemmas.Accepted.{bind_unless, number_ok, array_ok, bound, ok_same, required_ok, optional_ok, list_ok, gathered_each, gathered_keeps, gathered_length, passes_at, unless_ok, Few, Read}
use Rattle.recipe.specs.declared.contents.RecipeContents.{RecipeContents}
use Rattle.recipe.specs.declared.parts.Input.{Input}
use Rattle.recipe.specs.declared.parts.Source.{Source}
use Rattle.recipe.specs.declared.parts.Stage.{Stage}
use Rattle.recipe.specs.Kept.{IsRecipe, IsStage}
use Rattle.recipe.specs.Reading.{first_walk, recipe_of}
use Rattle.recipe.specs.SecondWalk.{second_walk}
use Rattle.recipe.specs.Tables.{top_place, input_place, source_place, stage_place, Top, top_table, next_input, next_source, next_stage, compare_place, stages_key, is_among, next_stage_name, some_stage_names, one_stage, compared_stages, compare_table, IsFormat}
use Rattle.recipe.proofs.DistinctNames.{not_false, distinct_push, names_of, input_added, source_added, stage_added}
use Rattle.recipe.proofs.FirstWalk.{InputParsed, input_parsed, SourceParsed, source_parsed, StageParsed, stage_parsed}
use Rattle.recipe.proofs.SecondWalk.{all_at, source_there, stage_refers_at, argued_at, walked}
use Rattle.recipe.specs.declared.text.refusal.RecipeRefusal.{RecipeRefusal}

-- ---- the top

record TopParsed (top : Top) : Type 0 where
  format : IsFormat top.format
  inputs : Few 1 256 (length top.inputs)
  sources : length top.sources ≤ 256
  stages : Few 1 256 (length top.stages)

few_sources : (sources : Option (List Members)) → IfSome sources (Read (a_list a_table 0 256) top_place key.Source) → length (unwrap_or sources []) ≤ 256
few_sources None read = omega arith
few_sources (Some sources) read = (list_ok a_table 0 256 top_place key.Source read.0 sources read.1).0.few

one_or_two : (n : ℕ) → 1 ≤ n → n ≤ 2 → IsFormat n
one_or_two n least most = elim (cases_lt n 2) [
  | inl less ↦ inl (omega arith)
  | inr more ↦ inr (omega arith)
]

top_parsed : (table : Members) (top : Top) → top_table table ≡ Ok top → TopParsed top
unfolding top_table
top_parsed table top e =
    bound _ (required (a_number 1 2) top_place key.Format table) _ top e (λ format format_is rest1.
    bound _ (required (a_list a_table 1 256) top_place key.Input table) _ top rest1 (λ inputs inputs_is rest2.
    bound _ (optional (a_list a_table 0 256) top_place key.Source table) _ top rest2 (λ sources sources_is rest3.
    bound _ (required (a_list a_table 1 256) top_place key.Stage table) _ top rest3 (λ stages stages_is rest4.
    bound _ (required a_table top_place key.Compare table) _ top rest4 (λ compare compare_is rest5.
    bound _ (no_other_key top_place (key.Format ∷ key.Input ∷ key.Source ∷ key.Stage ∷ key.Compare ∷ []) table) _ top rest5 (λ other closed_is rest6.
    let format_at = required_ok (a_number 1 2) top_place key.Format table format format_is in
    let range = number_ok 1 2 top_place key.Format format_at.0 format format_at.1 in
    let inputs_at = required_ok (a_list a_table 1 256) top_place key.Input table inputs inputs_is in
    let stages_at = required_ok (a_list a_table 1 256) top_place key.Stage table stages stages_is in
    subst TopParsed (ok_same (record { format = format; inputs = inputs; sources = unwrap_or sources []; stages = stages; compare = compare }) top rest6)
    (record {
      format = one_or_two format range.0 range.1;
      inputs = (list_ok a_table 1 256 top_place key.Input inputs_at.0 inputs inputs_at.1).0;
      sources = few_sources sources (optional_ok (a_list a_table 0 256) top_place key.Source table sources sources_is);
      stages = (list_ok a_table 1 256 top_place key.Stage stages_at.0 stages stages_at.1).0;
    })))))))

-- ---- compare

-- of format 1 or of format 2
record StagesParsed (one : Bool) (stages : List (List ℕ)) : Type 0 where
  some : 1 ≤ length stages
  few : length stages ≤ cond one 1 16
  once : IsDistinct bytes_eq stages

name_added : (before : List (List ℕ)) (value : Data) (name : List ℕ) → IsDistinct bytes_eq before → next_stage_name compare_place key.Stages before value ≡ Ok name
    → IsDistinct bytes_eq (before ++ name ∷ [])
unfolding next_stage_name
name_added before value name distinct e =
    let read = bind_unless (a_name compare_place key.Stages value) (DoubleName compare_place key.Stages) (λ name. not (is_among before name)) name e in
    distinct_push before name distinct (not_false (is_among before name) read.1)

names_parsed : (value : Data) (names : List (List ℕ)) → some_stage_names compare_place key.Stages value ≡ Ok names → StagesParsed false names
unfolding some_stage_names IsDistinct
names_parsed value names e =
    bound _ (an_array 1 16 compare_place key.Stages value) _ names e (λ values values_is rest.
    let count = array_ok 1 16 compare_place key.Stages value values values_is in
    let long = gathered_length (next_stage_name compare_place key.Stages) [] values names rest in
    record {
      some = omega (arith, count.some, long);
      few = omega (arith, count.few, long);
      once = gathered_keeps (λ names. IsDistinct bytes_eq names) (next_stage_name compare_place key.Stages) [] values names name_added tt rest;
    })

stages_parsed : (one : Bool) (table : Members) (stages : List (List ℕ)) → cond one (one_stage table) (required some_stage_names compare_place key.Stages table) ≡ Ok stages
    → StagesParsed one stages
unfolding IsDistinct
stages_parsed true table stages e =
    bound _ (required a_name compare_place key.Stage table) _ stages e (λ stage stage_is rest.
    subst (StagesParsed true) (ok_same (stage ∷ []) stages rest) (record { some = omega arith; few = omega arith; once = (tt, tt) }))
stages_parsed false table stages e =
    let at = required_ok some_stage_names compare_place key.Stages table stages e in
    names_parsed at.0 stages at.1

compare_parsed : (format : ℕ) (table : Members) (compare : Compare) → compare_table format table ≡ Ok compare → StagesParsed (format == 1) compare.stages
unfolding compare_table compared_stages
compare_parsed format table compare e =
    bound _ (compared_stages format table) _ compare e (λ stages stages_is rest1.
    bound _ (required a_name compare_place key.Binary table) _ compare rest1 (λ binary binary_is rest2.
    bound _ (no_other_key compare_place (stages_key format ∷ key.Binary ∷ []) table) _ compare rest2 (λ other closed_is rest3.
    subst (λ c. StagesParsed (format == 1) c.stages) (ok_same (record { stages = stages; binary = binary }) compare rest3) (stages_parsed (format == 1) table stages stages_is))))

-- ---- the first walk

record FirstParsed (parsed : RecipeContents) : Type 0 where
  format : IsFormat parsed.format
  compare : StagesParsed (parsed.format == 1) parsed.compare.stages
  digest : (bytes : List ℕ) × (parsed.digest.0 ≡ sha256 bytes)
  few_inputs : Few 1 256 (length parsed.inputs)
  few_sources : length parsed.sources ≤ 256
  few_stages : Few 1 256 (length parsed.stages)
  names : IsDistinct bytes_eq (names_of parsed.inputs parsed.sources parsed.stages)
  inputs : (i : ℕ) (input : Input) → slice_get parsed.inputs i ≡ Some input → (before : List Input) × InputParsed before input
  sources : (i : ℕ) (source : Source) → slice_get parsed.sources i ≡ Some source → (before : List Source) × SourceParsed parsed.inputs before source
  stages : (i : ℕ) (stage : Stage) → slice_get parsed.stages i ≡ Some stage → (before : List Stage) × StageParsed parsed.inputs parsed.sources before stage

input_next : (before : List Input) (table : Members) (input : Input) → next_input before table ≡ Ok input → InputParsed before input
input_next before table input e = input_parsed before (input_place (length before + 1)) table input e

source_next : (inputs : List Input) (before : List Source) (table : Members) (source : Source) → next_source inputs before table ≡ Ok source → SourceParsed inputs before source
source_next inputs before table source e = source_parsed inputs before (source_place (length before + 1)) table source e

stage_next : (inputs : List Input) (sources : List Source) (before : List Stage) (table : Members) (stage : Stage) → next_stage inputs sources before table ≡ Ok stage
    → StageParsed inputs sources before stage
stage_next inputs sources before table stage e = stage_parsed inputs sources before (stage_place (length before + 1)) table stage e

walked_first : (bytes : List ℕ) (parsed : RecipeContents) → first_walk bytes ≡ Ok parsed → FirstParsed parsed
unfolding first_walk IsDistinct
walked_first bytes parsed e =
    bound _ (document_of bytes) _ parsed e (λ document document_is rest1.
    bound _ (top_table document) _ parsed rest1 (λ top top_is rest2.
    bound _ (gathered next_input [] top.inputs) _ parsed rest2 (λ inputs inputs_is rest3.
    bound _ (gathered (next_source inputs) [] top.sources) _ parsed rest3 (λ sources sources_is rest4.
    bound _ (gathered (next_stage inputs sources) [] top.stages) _ parsed rest4 (λ stages stages_is rest5.
    bound _ (compare_table top.format top.compare) _ parsed rest5 (λ compare compare_is rest6.
    let top_parsed = top_parsed document top top_is in
    let inputs_long = gathered_length next_input [] top.inputs inputs inputs_is in
    let sources_long = gathered_length (next_source inputs) [] top.sources sources sources_is in
    let stages_long = gathered_length (next_stage inputs sources) [] top.stages stages stages_is in
    let input_names = gathered_keeps (λ found. IsDistinct bytes_eq (names_of found [] [])) next_input [] top.inputs inputs
    (λ before table input distinct is. input_added before input distinct (input_next before table input is).name.is_new) tt inputs_is in
    let source_names = gathered_keeps (λ found. IsDistinct bytes_eq (names_of inputs found [])) (next_source inputs) [] top.sources sources
    (λ before table source distinct is. source_added inputs before source distinct (source_next inputs before table source is).name.is_new) input_names sources_is in
    let stage_names = gathered_keeps (λ found. IsDistinct bytes_eq (names_of inputs sources found)) (next_stage inputs sources) [] top.stages stages
    (λ before table stage distinct is. stage_added inputs sources before stage distinct (stage_next inputs sources before table stage is).name.is_new) source_names stages_is in
    subst FirstParsed (ok_same (record { digest = record { 0 = sha256 bytes }; format = top.format; inputs = inputs; sources = sources; stages = stages; compare = compare }) parsed rest6)
    (record {
      format = top_parsed.format;
      compare = compare_parsed top.format top.compare compare compare_is;
      digest = (bytes, refl);
      few_inputs = record { some = omega (arith, top_parsed.inputs.some, inputs_long); few = omega (arith, top_parsed.inputs.few, inputs_long) };
      few_sources = omega (arith, top_parsed.sources, sources_long);
      few_stages = record { some = omega (arith, top_parsed.stages.some, stages_long); few = omega (arith, top_parsed.stages.few, stages_long) };
      names = stage_names;
      inputs = gathered_each (λ input. (before : List Input) × InputParsed before input) next_input top.inputs inputs
          (λ before table input is. (before, input_next before table input is)) inputs_is;
      sources = gathered_each (λ source. (before : List Source) × SourceParsed inputs before source) (next_source inputs) top.sources sources
          (λ before table source is. (before, source_next inputs before table source is)) sources_is;
      stages = gathered_each (λ stage. (before : List Stage) × StageParsed inputs sources before stage) (next_stage inputs sources) top.stages stages
          (λ before table stage is. (before, stage_next inputs sources before table stage is)) stages_is;
    })))))))

-- ---- both

stage_kept : (parsed : RecipeContents) (i : ℕ) (stage : Stage) → FirstParsed parsed → second_walk parsed ≡ Ok tt → slice_get parsed.stages i ≡ Some stage → IsStage parsed (take i parsed.stages) stage
stage_kept parsed i stage first second is =
    let walk = walked parsed second in
    let told = (first.stages i stage is).1 in
    let refers = stage_refers_at parsed i stage walk.stages is in
    record {
      name = told.name.is_name;
      program = refers.program;
      some_args = told.some_args;
      few_args = told.few_args;
      args = told.args;
      few_env = told.few_env;
      env = told.env;
      few_files = told.files.few;
      files = λ j file at. record { path = told.files.paths j file at; from = refers.files j file at };
      distinct = told.files.distinct;
      output = told.output;
      some_steps = told.some_steps;
      few_steps = told.few_steps;
      heap = told.heap;
      check = refers.check;
      becomes = refers.becomes;
      argued = argued_at parsed i stage walk.argued is refers.program;
    }

pub keeps : (bytes : List ℕ) (parsed : RecipeContents) → first_walk bytes ≡ Ok parsed → second_walk parsed ≡ Ok tt → IsRecipe parsed
keeps bytes parsed is second =
    let first = walked_first bytes parsed is in
    let walk = walked parsed second in
    record {
      format = first.format;
      digest = first.digest;
      some_inputs = first.few_inputs.some;
      few_inputs = first.few_inputs.few;
      few_sources = first.few_sources;
      some_stages = first.few_stages.some;
      few_stages = first.few_stages.few;
      names = first.names;
      inputs = λ i input at. let told = (first.inputs i input at).1 in record {
        name = told.name.is_name;
        path = told.path;
        implements = source_there parsed.sources _ _ input.implements (passes_at _ 1 parsed.inputs i input walk.inputs at);
      };
      sources = λ i source at. let told = (first.sources i source at).1 in record {
        name = told.name.is_name;
        base = told.base;
        some_files = told.files.some;
        few_files = told.files.few;
        files = all_at _ source.files (unless_ok _ _ tt (passes_at _ 1 parsed.sources i source walk.sources at));
      };
      stages = λ i stage at. stage_kept parsed i stage first second at;
      some_compared = first.compare.some;
      few_compared = first.compare.few;
      compared_once = first.compare.once;
      compared = walk.compared;
      binary = walk.binary;
    }

-- what bytes that read say is a recipe
pub reads_keep : (bytes : List ℕ) (parsed : RecipeContents) → recipe_of bytes ≡ Ok parsed → IsRecipe parsed
unfolding recipe_of
reads_keep bytes parsed is = bound (IsRecipe parsed) (first_walk bytes) (λ read. second_walk read >> Ok read) parsed is (λ read walked ends. by read walked (second_walk read) refl ends) where
  by : (read : RecipeContents) → first_walk bytes ≡ Ok read → (second : Result (Unit {0}) RecipeRefusal) → second_walk read ≡ second → (second >> Ok read) ≡ Ok parsed → IsRecipe parsed
  by read walked (Ok u) passed ends =
      let same : read ≡ parsed = cc in
      keeps bytes parsed (walked ∙ ap Ok same) (subst (λ (s : RecipeContents). second_walk s ≡ Ok u) same passed)
  by read walked (Err refusal) passed ends = absurd cc
