-- With which statuses a command ends, by what `help` prints of it. docs/reference/command-line.md says the same for people.
use Rattle.std.specs.Prelude.{◌≡◌, ℕ, Bool, true, false, ◌||◌, ◌==◌, Ok, List, bytes_eq, decimal}
use Rattle.std.specs.List.{list_any, slice_split}
use Rattle.recipe.specs.Reading.{recipe_of}
use Rattle.recipe.specs.declared.contents.RecipeContents.{RecipeContents}
use Rattle.audit_commands.specs.Demo.{demo_recipe}
use Rattle.command_plan.specs.Answered.{exit_status}
use Rattle.command_plan.specs.declared.status.Status.{Status}
use Rattle.command_plan.specs.declared.status.Status.TheVariants.{FileRefused, Usage}
use Rattle.ddc_app.specs.Help.{command_statuses}
use Rattle.ddc_app.specs.declared.command_word.CommandWord.{CommandWord}
use Rattle.ddc_app.specs.declared.command_word.CommandWord.TheVariants.{Demo}

-- the words that `help` prints of a command after `statuses`
abbrev pub printed_words : CommandWord → List (List ℕ)
printed_words command = slice_split (λ byte. byte == 32) (command_statuses command)

-- the number of a status is one of them
abbrev pub is_printed : CommandWord → Status → Bool
is_printed command status = list_any (λ word. bytes_eq word (decimal (exit_status status))) (printed_words command)

-- the answers that are common to all commands: a usage error, and a file that is absent or too long
abbrev pub is_common : Status → Bool
is_common Usage = true
is_common FileRefused = true
is_common _ = false

-- an answer of a command: one that `help` prints of it, or a common one
abbrev pub is_answer_of : CommandWord → Status → Bool
is_answer_of command status = is_common status || is_printed command status

-- the recipe of the demonstration reads; no other command brings a recipe with it
abbrev pub HasReadRecipe : CommandWord → Type 0
HasReadRecipe Demo = (parsed : RecipeContents) × (recipe_of demo_recipe ≡ Ok parsed)
HasReadRecipe _ = Unit {0}
