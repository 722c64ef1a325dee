-- A recipe that reads bears the digest of its bytes, and held inputs are as many as are named.
use Rattle.std.proofs.Common.{◌≡◌, ℕ, suc, ◌-◌, Result, Ok, Err, List, [], ◌∷◌, length, refl, sym, ap, ◌∙◌}
use Rattle.std.proofs.lemmas.List.{length-map}
use Rattle.sha2.specs.Sha256.{sha256}
use Rattle.ddc_base.specs.Outside.{NamedFiles}
use Rattle.ddc_base.specs.Results.{◌>>◌, ◌>>=◌}
use Rattle.ddc_base.proofs.Results.{Yields, bound, taken, yields}
use Rattle.ddc_base.specs.Limits.{most_content, most_inputs}
use Rattle.recipe.specs.declared.contents.RecipeContents.{RecipeContents}
use Rattle.recipe.specs.declared.parts.Input.{Input}
use Rattle.recipe.specs.declared.text.refusal.RecipeRefusal.{RecipeRefusal}
use Rattle.recipe.specs.Reading.{first_walk, recipe_of}
use Rattle.recipe.specs.SecondWalk.{second_walk}
use Rattle.recipe.specs.Tables.{top_table, next_input, next_source, next_stage, compare_table}
use Rattle.recipe.specs.Text.Reading.{gathered, document_of}
use Rattle.recipe_plan.specs.Recipes.{paths}
use Rattle.ddc_app.specs.Holding.{AreHeld}

abbrev Bears : List ℕ → RecipeContents → Type 0
Bears bytes parsed = parsed.digest.0 ≡ sha256 bytes

first-bears : (bytes : List ℕ) → Yields (Bears bytes) (first_walk bytes)
unfolding first_walk
first-bears bytes =
    bound (document_of bytes) _ (λ document _.
    bound (top_table document) _ (λ top _.
    bound (gathered next_input [] top.inputs) _ (λ inputs _.
    bound (gathered (next_source inputs) [] top.sources) _ (λ sources _.
    bound (gathered (next_stage inputs sources) [] top.stages) _ (λ stages _.
    bound (compare_table top.format top.compare) _ (λ compare _.
    yields (Bears bytes)
    (record { digest = record { 0 = sha256 bytes }; format = top.format; inputs = inputs; sources = sources; stages = stages; compare = compare }) refl))))))

pub bears : (bytes : List ℕ) (parsed : RecipeContents) → recipe_of bytes ≡ Ok parsed → parsed.digest.0 ≡ sha256 bytes
unfolding recipe_of
bears bytes parsed is = by_first (first_walk bytes) refl is where
  value_of : RecipeContents → Result RecipeContents RecipeRefusal → RecipeContents
  value_of d (Ok v) = v
  value_of d (Err e) = d

  by_second : (first : RecipeContents) (r : Result (Unit {0}) RecipeRefusal) → Bears bytes first → (r >> Ok first) ≡ Ok parsed → Bears bytes parsed
  by_second first (Err why) here is = absurd cc
  by_second first (Ok tt) here is = ap (λ (s : RecipeContents). s.digest.0) (ap (value_of parsed) (sym is)) ∙ here

  by_first : (r : Result RecipeContents RecipeRefusal) → first_walk bytes ≡ r → (r >>= (λ first. second_walk first >> Ok first)) ≡ Ok parsed → Bears bytes parsed
  by_first (Err why) at is = absurd cc
  by_first (Ok first) at is = by_second first (second_walk first) (taken (first_walk bytes) first (first-bears bytes) at) is

counted : (most budget : ℕ) (files : NamedFiles) (names contents : List (List ℕ)) → AreHeld most budget files names contents → length contents ≡ length names
counted most budget files [] [] held = refl
counted most budget files [] (content ∷ contents) held = absurd held
counted most budget files (name ∷ names) [] held = absurd held
counted most budget files (name ∷ names) (content ∷ contents) held =
    ap suc (counted most (budget - length content) files names contents held.1)

pub inputs-counted : (files : NamedFiles) (parsed : RecipeContents) (inputs : List (List ℕ)) → AreHeld most_content most_inputs files (paths parsed) inputs
    → length inputs ≡ length parsed.inputs
inputs-counted files parsed inputs held =
    counted most_content most_inputs files (paths parsed) inputs held ∙ length-map parsed.inputs (λ (input : Input). input.path)
