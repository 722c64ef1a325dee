-- The contents of a recipe's bytes, or the first refusal of its two walks (docs/reference/recipe.md). A recipe's digest is the SHA-256 of
-- its bytes (FIPS 180-4).
use Rattle.std.specs.Prelude.{ℕ, List, [], Result, Ok}
use Rattle.ddc_base.specs.Results.{◌>>=◌, ◌>>◌}
use Rattle.sha2.specs.Sha256.{sha256}
use Rattle.recipe.specs.Text.Reading.{gathered, document_of}
use Rattle.recipe.specs.declared.text.refusal.RecipeRefusal.{RecipeRefusal}
use Rattle.recipe.specs.declared.contents.RecipeContents.{RecipeContents}
use Rattle.recipe.specs.SecondWalk.{second_walk}
use Rattle.recipe.specs.Tables.{top_table, next_input, next_source, next_stage, compare_table}

unfoldable pub first_walk : List ℕ → Result RecipeContents RecipeRefusal
first_walk bytes = do
  document ← document_of bytes
  top ← top_table document
  inputs ← gathered next_input [] top.inputs
  sources ← gathered (next_source inputs) [] top.sources
  stages ← gathered (next_stage inputs sources) [] top.stages
  compare ← compare_table top.format top.compare
  Ok (record { digest = record { 0 = sha256 bytes }; format = top.format; inputs = inputs; sources = sources; stages = stages; compare = compare })

unfoldable pub recipe_of : List ℕ → Result RecipeContents RecipeRefusal
recipe_of bytes = do
  parsed ← first_walk bytes
  second_walk parsed
  Ok parsed
