-- How a text is judged as a save. docs/reference/save.md says the same for people.
use Rattle.std.specs.Prelude.{ℕ, List, Result, Ok, Err, if◌then◌else◌}
use Rattle.recipe.specs.declared.contents.RecipeContents.{RecipeContents}
use Rattle.save_format.specs.SaveText.{SaveText, parsed_save}
use Rattle.audit_rules.specs.Positions.{Position}
use Rattle.audit_run.specs.Save.Inside.Tests.{is_of, is_saved_position}
use Rattle.audit_run.specs.Save.Saves.{position_of}
use Rattle.audit_run.specs.declared.save.reading.SaveRefusal.{SaveRefusal}
use Rattle.audit_run.specs.declared.save.reading.SaveRefusal.TheVariants.{Form, OtherRecipe, State}

-- the result of a parsed save: first whether it is of this recipe and these inputs, then whether it is a position of the audit. The tests
-- `is_of` and `is_saved_position` decide the rules `IsOf` and `IsSavedPosition` (`laws::the_tests_are_the_rules`)
abbrev pub judged_as : RecipeContents → List (List ℕ) → Result SaveText ℕ → Result Position SaveRefusal
judged_as recipe inputs (Err offset) = Err (Form offset)
judged_as recipe inputs (Ok save) = if is_of recipe inputs save then (if is_saved_position recipe save then Ok (position_of save) else Err State) else Err OtherRecipe

-- a text is judged by its form, and then by what it says
unfoldable pub judged : RecipeContents → List (List ℕ) → List ℕ → Result Position SaveRefusal
judged recipe inputs text = judged_as recipe inputs (parsed_save text)
