use Rattle.toml.specs.View.{view}
use Rattle.recipe.specs.declared.text.keys.Key.TheVariants as key
use Rattle.recipe.specs.Tables.{next_file}
use Rattle.recipe.proofs.TextLemmas.Walks.{Gathers}
use Rattle.recipe.proofs.stage_files.files_of.Given as goal

abbrev pub invariant-loop-entry : goal.invariant-loop-entry
invariant-loop-entry l = Gathers view (next_file l.place key.Files) l.entries l.entry-index l.files
