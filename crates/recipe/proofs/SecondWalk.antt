-- What the second walk tells of each table.
use Rattle.std.proofs.Common.{◌≡◌, ℕ, zero, suc, ◌+◌, ◌-◌, Bool, true, List, [], ◌∷◌, take, Option, Some, None, Ok, refl, sym, ap, subst, ◌∙◌, arith}
use Rattle.std.specs.Prelude.{is_some, IsSome, slice_get, option_and_then}
use Rattle.std.specs.List.{list_all}
use Rattle.ddc_base.specs.Results.{error_unless}
use Rattle.recipe.specs.declared.text.keys.Key.{Key}
use Rattle.recipe.specs.declared.text.keys.Key.TheVariants as key
use Rattle.recipe.specs.declared.text.keys.Place.{Place}
use Rattle.recipe.specs.declared.text.refusal.RecipeRefusal.TheVariants.{BadName, NotMadeYet}
use Rattle.recipe.specs.Text.Reading.{each_passes}
use Rattle.recipe.proofs.TextLemmas.Accepted.{bound, unless_ok, both_true, passes_at, some_same}
use Rattle.recipe.specs.declared.contents.RecipeContents.{RecipeContents}
use Rattle.recipe.specs.declared.parts.Content.{Content}
use Rattle.recipe.specs.declared.parts.Content.TheVariants as content
use Rattle.recipe.specs.declared.parts.Source.{Source}
use Rattle.recipe.specs.declared.parts.Stage.{Stage}
use Rattle.recipe.specs.Kept.{Each, NamesSource, IsMade, Checks, IsCheck}
use Rattle.recipe.specs.Lookups.{source_named, content_named, content_source, source_of, stage_at, input_at}
use Rattle.recipe.specs.SecondWalk.{is_content, refers_to_source, input_refers, source_refers, is_defined, checks_source, check_refers, stage_refers_after, stage_refers, compare_refers, has_source, is_argued, program_has_source, is_stage, second_walk}
use Rattle.recipe.specs.Tables.{stage_place, compare_place, stages_key}
use Rattle.recipe.proofs.MoreStages.{content_more}

-- a test of each element, at an index
pub all_at : {A : Type 0} (test : A → Bool) (xs : List A) → list_all test xs ≡ true → Each (λ x. test x ≡ true) xs
all_at test [] all i x is = absurd cc
all_at test (y ∷ xs) all zero x is = subst (λ z. test z ≡ true) (some_same y x is) (both_true (test y) (list_all test xs) all).0
all_at test (y ∷ xs) all (suc i) x is = all_at test xs (both_true (test y) (list_all test xs) all).1 i x is

pub source_there : (sources : List Source) (place : Place) (k : Key) (name : Option (List ℕ)) → refers_to_source sources place k name ≡ Ok tt → NamesSource sources name
source_there sources place k None e = tt
source_there sources place k (Some name) e = unless_ok (NotMadeYet place k) (is_some (source_named sources name)) tt e

pub record StageRefers (parsed : RecipeContents) (earlier : List Stage) (stage : Stage) : Type 0 where
  pub program : IsMade parsed earlier stage.program
  pub files : Each (λ file. IsMade parsed earlier file.from) stage.files
  pub check : IsCheck parsed earlier stage.check
  pub becomes : NamesSource parsed.sources stage.becomes

checks_there : (parsed : RecipeContents) (earlier : List Stage) (place : Place) (name : List ℕ) (found : Option Source) → source_named parsed.sources name ≡ found
    → checks_source parsed earlier place found ≡ Ok tt → (source : Source) × (source_named parsed.sources name ≡ Some source) × Checks parsed earlier source
checks_there parsed earlier place name None is e = absurd cc
checks_there parsed earlier place name (Some source) is e =
    bound _ (error_unless (NotMadeYet place key.Check) (list_all (is_content parsed.inputs earlier) source.files)) (λ _. error_unless (BadName place key.Check) (is_defined source.lang)) tt e (λ u made rest. (
      source,
      is,
      record {
        files = all_at (is_content parsed.inputs earlier) source.files (unless_ok (NotMadeYet place key.Check) (list_all (is_content parsed.inputs earlier) source.files) u made);
        defined = unless_ok (BadName place key.Check) (is_defined source.lang) tt rest;
      },
    ))

check_there : (parsed : RecipeContents) (earlier : List Stage) (place : Place) (check : Option (List ℕ)) → check_refers parsed earlier place check ≡ Ok tt → IsCheck parsed earlier check
unfolding check_refers
check_there parsed earlier place None e = tt
check_there parsed earlier place (Some name) e = checks_there parsed earlier place name (source_named parsed.sources name) refl e

stage_there : (parsed : RecipeContents) (earlier : List Stage) (place : Place) (stage : Stage) → stage_refers_after parsed earlier place stage ≡ Ok tt → StageRefers parsed earlier stage
unfolding stage_refers_after
stage_there parsed earlier place stage e =
    bound _ (error_unless (NotMadeYet place key.Program) (is_content parsed.inputs earlier stage.program)) _ tt e (λ u program rest1.
    bound _ (error_unless (NotMadeYet place key.Files) (list_all (λ file. is_content parsed.inputs earlier file.from) stage.files)) _ tt rest1 (λ v files rest2.
    bound _ (check_refers parsed earlier place stage.check) (λ _. refers_to_source parsed.sources place key.Becomes stage.becomes) tt rest2 (λ w check rest3.
    record {
      program = unless_ok (NotMadeYet place key.Program) (is_content parsed.inputs earlier stage.program) u program;
      files = all_at (λ file. is_content parsed.inputs earlier file.from) stage.files (unless_ok (NotMadeYet place key.Files) (list_all (λ file. is_content parsed.inputs earlier file.from) stage.files) v files);
      check = check_there parsed earlier place stage.check check;
      becomes = source_there parsed.sources place key.Becomes stage.becomes rest3;
    })))

pub stage_refers_at : (parsed : RecipeContents) (i : ℕ) (stage : Stage) → each_passes (stage_refers parsed) 1 parsed.stages ≡ Ok tt → slice_get parsed.stages i ≡ Some stage
    → StageRefers parsed (take i parsed.stages) stage
stage_refers_at parsed i stage passed is =
    let here : (1 + i) - 1 ≡ i = omega arith in
    subst (λ n. StageRefers parsed (take n parsed.stages) stage) here
    (stage_there parsed (take ((1 + i) - 1) parsed.stages) (stage_place (1 + i)) stage (passes_at (stage_refers parsed) 1 parsed.stages i stage passed is))

-- ---- the source of an unchecked stage's program

sourced : (parsed : RecipeContents) (found : Option Content) → IsSome found → has_source parsed found ≡ Ok tt → IsSome (option_and_then (content_source parsed) found)
sourced parsed None is e = absurd cc
sourced parsed (Some (content.Input index)) is e = unless_ok _ (is_some (content_source parsed (content.Input index))) tt e
sourced parsed (Some (content.Stage index)) is e = unless_ok _ (is_some (content_source parsed (content.Stage index))) tt e

pub argued_at : (parsed : RecipeContents) (i : ℕ) (stage : Stage) → each_passes (program_has_source parsed) 1 parsed.stages ≡ Ok tt → slice_get parsed.stages i ≡ Some stage
    → IsMade parsed (take i parsed.stages) stage.program → stage.check ≡ None → IsSome (source_of parsed stage.program)
argued_at parsed i stage passed is made unchecked =
    let has : is_argued parsed stage.check stage.program ≡ Ok tt = passes_at (program_has_source parsed) 1 parsed.stages i stage passed is in
    let there : IsSome (content_named parsed.inputs parsed.stages stage.program) = ap is_some (content_more parsed.inputs parsed.stages i stage.program made) ∙ made in
    sourced parsed (content_named parsed.inputs parsed.stages stage.program) there (ap (λ check. is_argued parsed check stage.program) (sym unchecked) ∙ has)

-- ---- the whole walk

pub record Walked (parsed : RecipeContents) : Type 0 where
  pub inputs : each_passes (input_refers parsed) 1 parsed.inputs ≡ Ok tt
  pub sources : each_passes (source_refers parsed) 1 parsed.sources ≡ Ok tt
  pub stages : each_passes (stage_refers parsed) 1 parsed.stages ≡ Ok tt
  pub compared : Each (λ name. IsSome (stage_at parsed.stages name)) parsed.compare.stages
  pub binary : IsSome (input_at parsed.inputs parsed.compare.binary)
  pub argued : each_passes (program_has_source parsed) 1 parsed.stages ≡ Ok tt

pub walked : (parsed : RecipeContents) → second_walk parsed ≡ Ok tt → Walked parsed
unfolding second_walk compare_refers
walked parsed e =
    bound _ (each_passes (input_refers parsed) 1 parsed.inputs) _ tt e (λ a inputs rest1.
    bound _ (each_passes (source_refers parsed) 1 parsed.sources) _ tt rest1 (λ b sources rest2.
    bound _ (each_passes (stage_refers parsed) 1 parsed.stages) _ tt rest2 (λ d stages rest3.
    bound _ (compare_refers parsed) (λ _. each_passes (program_has_source parsed) 1 parsed.stages) tt rest3 (λ f compare argued.
    bound _ (error_unless (NotMadeYet compare_place (stages_key parsed.format)) (list_all (is_stage parsed.stages) parsed.compare.stages))
    (λ _. error_unless (NotMadeYet compare_place key.Binary) (is_some (input_at parsed.inputs parsed.compare.binary))) f compare (λ g compared binary.
    record {
      inputs = inputs;
      sources = sources;
      stages = stages;
      compared = all_at (is_stage parsed.stages) parsed.compare.stages (unless_ok (NotMadeYet compare_place (stages_key parsed.format)) (list_all (is_stage parsed.stages) parsed.compare.stages) g compared);
      binary = unless_ok (NotMadeYet compare_place key.Binary) (is_some (input_at parsed.inputs parsed.compare.binary)) f binary;
      argued = argued;
    })))))
