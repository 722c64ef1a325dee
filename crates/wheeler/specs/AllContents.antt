-- All contents of an audit: its inputs, the artefacts of every stage that `bench` completes, and what names stand for among them.
use Rattle.std.specs.Prelude.{ℕ, Option, None, Some, find, bytes_eq, Result, Ok, Err, List, [], ◌∷◌, ◌++◌}
use Rattle.recipe.specs.declared.contents.RecipeContents.{RecipeContents}
use Rattle.recipe.specs.declared.parts.Source.{Source}
use Rattle.recipe.specs.declared.parts.SourceLanguage.TheVariants.{Other}
use Rattle.recipe.specs.declared.parts.Stage.{Stage}
use Rattle.recipe.specs.Lookups.{source_named}
use Rattle.audit_rules.specs.declared.answer.StageFault.{StageFault}
use Rattle.audit_rules.specs.declared.answer.Finished.{Finished}
use Rattle.audit_rules.specs.Contents.{Contents, SourceText, text_of}
use Rattle.audit_rules.specs.Stages.{contents, stage_result}

-- one more stage is done, or the audit is over
abbrev pub with_result : List Finished → Result Finished StageFault → (List Finished → List Finished) → List Finished
with_result done (Err fault) next = done
with_result done (Ok f) next = next (done ++ f ∷ [])

-- the stages that are done once `bench` ends, after those that are done already
abbrev pub done_from : RecipeContents → List (List ℕ) → List Finished → List Stage → List Finished
done_from recipe inputs done [] = done
done_from recipe inputs done (stage ∷ stages) =
    with_result done (stage_result recipe inputs done stage) (λ more. done_from recipe inputs more stages)

unfoldable pub all_contents : RecipeContents → List (List ℕ) → Contents
all_contents recipe inputs = contents inputs (done_from recipe inputs [] recipe.stages)

-- the stage of a name
abbrev pub stage_named : List Stage → List ℕ → Option Stage
stage_named stages name = find (λ (stage : Stage). bytes_eq stage.name name) stages

-- the text of an optional source. Without a source it is empty and in no defined language, which a recipe's rules exclude
abbrev pub text_by : RecipeContents → Contents → Option Source → SourceText
text_by recipe contents None = record { lang = Other; base = 0; files = [] }
text_by recipe contents (Some source) = text_of recipe contents source

unfoldable pub text_named : RecipeContents → Contents → List ℕ → SourceText
text_named recipe contents name = text_by recipe contents (source_named recipe.sources name)
